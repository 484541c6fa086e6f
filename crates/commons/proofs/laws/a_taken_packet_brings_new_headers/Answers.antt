use Rattle.std.proofs.Common.{arith}
use Rattle.commons.proofs.laws.a_taken_packet_brings_new_headers.Goals as goal

-- after the take an own element is a header once at most, so it was none before
pub returns : goal.returns
returns g c =
    λ before desk packet after d i.
    omega (arith, d.step.effect.headers i, g.met.C.Commons.header_once after i)
