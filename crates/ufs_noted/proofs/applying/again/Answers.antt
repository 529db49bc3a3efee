use Rattle.std.proofs.Common.{sym}
use Rattle.ufs_noted.proofs.applying.again.Goals as goal

pub returns : goal.returns
returns c ask by ticket e desc fd last = λ i. record { client = e.client i; seq = e.seq i; op = e.asked i; desc = desc i; fd = sym fd i; last = sym last i }
