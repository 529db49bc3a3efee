-- What a hand without a cell is told, and what it tells.
use Rattle.std.specs.Prelude.{ℕ, ◌≡◌, ◌≤◌, ◌<◌, [], Some}
use Rattle.ufs_joint.specs.Cells.{View}
use Rattle.ufs_model.specs.declared.data.Entry.{Entry}
use Rattle.ufs_msg.specs.declared.answer.Answer.{Answer}
use Rattle.ufs_msg.specs.declared.answer.Answer.TheVariants.{Redirect, Served}

-- It has no cell.
pub record HasNothing (v : View) : Type 0 where
  pub clients : v.clients ≡ []
  pub asked : v.asked ≡ []
  pub files : v.files ≡ []
  pub pools : v.pools ≡ []
  pub names : v.names ≡ []
  pub store : v.store ≡ []

-- The hand has what it had, and has seen so many tickets too.
pub record IsToldOf (n : ℕ) (v w : View) : Type 0 where
  pub clients : w.clients ≡ v.clients
  pub asked : w.asked ≡ v.asked
  pub files : w.files ≡ v.files
  pub pools : w.pools ≡ v.pools
  pub names : w.names ≡ v.names
  pub store : w.store ≡ v.store
  pub faults : w.faults ≡ v.faults
  pub stop : (fault : ℕ) → v.stop ≡ Some fault → w.stop ≡ Some fault
  pub later : v.seen ≤ w.seen
  pub seen : n ≤ w.seen

-- The entry was drawn by who had the baton: that had seen no later ticket before, and has seen this one.
pub record IsDrawnWith (since upto : ℕ) (e : Entry) : Type 0 where
  pub later : since ≤ e.ticket
  pub seen : e.ticket < upto

-- Where the request was served, its entry got no ticket below this, and the hand that comes with the answer has seen it.
abbrev pub IsToldSince : {N : Type 0} → ℕ → Answer N → Type 0
IsToldSince since (Served told) = IsDrawnWith since told.hand.seen told.entry
IsToldSince since (Redirect sent) = Unit {0}
