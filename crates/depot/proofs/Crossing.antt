-- Loans may go to another thread.
use denote.Param.Send.{IsSend}
use Rattle.atomic_table.proofs.Sent.{badge_keyless}
use Rattle.depot.specs.contracts.view.View.{the_row as view}
use Rattle.depot.specs.contracts.loans.Loans.{the_row}

pub loans_send : IsSend the_row
loans_send = record { owned = λ d vs. ((λ vss. (tt, tt)), λ id. badge_keyless view.coded.code d.table id d.views); leaving = λ k f vs. tt }
