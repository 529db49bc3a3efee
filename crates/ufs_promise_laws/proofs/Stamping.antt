-- What a history explains at most stays allowed while the server stays on its disk by that history.
use Rattle.std.proofs.Common.{◌≡◌, ℕ, None, List, inl, inr, subst}
use Rattle.std.specs.Prelude.{IsSome}
use Rattle.ufs_base.specs.Images.{Image}
use Rattle.ufs_model.specs.PosixTree.{PosixTree}
use Rattle.ufs_model.specs.declared.data.Entry.{Entry}
use Rattle.ufs_store.specs.State.{StoreState}
use Rattle.ufs_promise_laws.specs.OnDisk.{HasNames, IsExplainedImage, IsGoing, IsOnDisk}
use Rattle.ufs_promise_laws.specs.Parts.{Parts}
use Rattle.ufs_promise_laws.specs.Stamping.{ExplainsAllowed, ExplainsNamed}

-- a store that hasn't stopped goes on
pub is_going : (s : StoreState) (start : PosixTree) (history : List Entry) (p : Parts) → s.stop ≡ None → IsOnDisk s start history p → IsGoing s start history p
is_going s start history p none (inl go) = go
is_going s start history p none (inr st) = (let off = subst IsSome none st.stopped in absurd cc)

-- of a disk with as many sectors the same images are allowed
pub allowed_on : (allows : Image → Type 0) (start : PosixTree) (history : List Entry) (old new : ℕ) → new ≡ old → ((image : Image) → IsExplainedImage old start history image → allows image)
    → (image : Image) → IsExplainedImage new start history image → allows image
allowed_on allows start history old new same allowed image is = allowed image (subst (λ (n : ℕ). IsExplainedImage n start history image) same is)

module _ (allows : Image → Type 0) (s : StoreState) (p : Parts) where
  -- where all names stand on the disk the server is on it
  pub named_allowed : ExplainsNamed allows s p → ExplainsAllowed allows s p
  named_allowed e = record { start = e.start; history = e.history; on_disk = inl e.named.going; allowed = e.allowed }

  -- with a later store, and parts for which the same holds
  module _ (t : StoreState) (q : Parts) (same : t.sectors ≡ s.sectors) where
    pub go_on : (e : ExplainsAllowed allows s p) → IsOnDisk t e.start e.history q → ExplainsAllowed allows t q
    go_on e on_disk = record { start = e.start; history = e.history; on_disk = on_disk; allowed = allowed_on allows e.start e.history s.sectors t.sectors same e.allowed }

    -- ..or for which all names stand on the disk
    pub go_on_named : (e : ExplainsAllowed allows s p) → HasNames t e.start e.history q → ExplainsNamed allows t q
    go_on_named e named = record { start = e.start; history = e.history; named = named; allowed = allowed_on allows e.start e.history s.sectors t.sectors same e.allowed }

    pub named_go_on : (e : ExplainsNamed allows s p) → HasNames t e.start e.history q → ExplainsNamed allows t q
    named_go_on e named = record { start = e.start; history = e.history; named = named; allowed = allowed_on allows e.start e.history s.sectors t.sectors same e.allowed }
