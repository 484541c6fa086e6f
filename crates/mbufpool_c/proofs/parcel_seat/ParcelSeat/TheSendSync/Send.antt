use denote.Param.Send.{IsSend}
use Rattle.mbufpool_c.specs.contracts.parcel_seat.ParcelSeat.{the_row}
use Rattle.mbufpool_c.proofs.SeatTokens.{seat_send}

pub send : IsSend the_row
send = seat_send
