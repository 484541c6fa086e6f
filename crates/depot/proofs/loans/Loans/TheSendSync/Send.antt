use denote.Param.Send.{IsSend}
use Rattle.depot.specs.contracts.loans.Loans.{the_row}
use Rattle.depot.proofs.Crossing.{loans_send}

pub send : IsSend the_row
send = loans_send
