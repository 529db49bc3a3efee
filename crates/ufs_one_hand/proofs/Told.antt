-- A reply that is alike is of the same kind.
use Rattle.std.proofs.Common.{◌≡◌, ℕ, List, ap, refl, ⊎_elim}
use Rattle.ufs_model.specs.declared.data.Reply.{Reply}
use Rattle.ufs_model.specs.declared.data.Reply.TheVariants as reply
use Rattle.ufs_hand_laws.specs.Draws.{left_faults}
use Rattle.ufs_hand_laws.specs.Parts.{Start}
use Rattle.ufs_one_hand.specs.Drawn.{AreBothRead, IsReplyAlike}

-- what was read uses no fault
read_faults : (told given : Reply) (faults : List ℕ) → AreBothRead told given → left_faults told faults ≡ left_faults given faults
read_faults (reply.Got xs) (reply.Got ys) faults both = refl
read_faults (reply.Got xs) reply.Done faults both = absurd both
read_faults (reply.Got xs) (reply.Fd n) faults both = absurd both
read_faults (reply.Got xs) (reply.Count n) faults both = absurd both
read_faults (reply.Got xs) (reply.At n) faults both = absurd both
read_faults (reply.Got xs) (reply.IsFile n) faults both = absurd both
read_faults (reply.Got xs) (reply.IsDir n) faults both = absurd both
read_faults (reply.Got xs) (reply.Names n) faults both = absurd both
read_faults (reply.Got xs) (reply.Refused n) faults both = absurd both
read_faults (reply.Got xs) (reply.Excused n) faults both = absurd both
read_faults _ given faults both = absurd both

pub alike_faults : (k : Start) (told given : Reply) (faults : List ℕ) → IsReplyAlike k told given → left_faults told faults ≡ left_faults given faults
alike_faults k told given faults is = ⊎_elim (λ (same : told ≡ given). ap (λ (r : Reply). left_faults r faults) same) (read_faults told given faults) is.alike
