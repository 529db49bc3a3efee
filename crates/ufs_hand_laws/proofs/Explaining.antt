-- Each state of the disk is explained.
use Rattle.std.proofs.Common.{ℕ, List, Option, subst}
use Rattle.std.specs.Prelude.{take}
use Rattle.ufs_model.specs.History.{IsLegal}
use Rattle.ufs_model.specs.PosixTree.{Paths}
use Rattle.ufs_model.specs.Laws.{KeepsTrees}
use Rattle.ufs_hand_laws.specs.Covers.{CoversFile, CoversNames, CoversBirths}
use Rattle.ufs_hand_laws.specs.Parts.{Cells, View, Word, Start, committed}
use Rattle.ufs_hand_laws.specs.Sound.{IsSound}
use Rattle.ufs_hand_laws.specs.Explained.{IsDiskExplained, Showing}
use Rattle.ufs_hand_laws.proofs.Lists.{take_front}
use Rattle.ufs_hand_laws.specs.Visible.{IsDiskVisible}

module _ (keeps : KeepsTrees) (S : Showing) (k : Start) (word : Word) (views : List View) (o : IsSound S k word views) where
  -- what shows the first entries by numbers that cover the whole is explained by them
  pub explains_cut : (j : ℕ) (paths : Option Paths) (x : Cells) → S.Shows k.tree (take j o.history) (committed o.world.store) o.world.store.names paths x → S.Explains k.tree (take j o.history) x
  explains_cut j paths x s =
      let rest = take_front j o.history in
      S.explains keeps k.tree (take j o.history) rest.0 (committed o.world.store) o.world.store.names paths x o.legal.start (subst (IsLegal k.tree) rest.1 o.legal.legal) s
      (λ g. subst (λ h. CoversFile k.tree h g (committed o.world.store g)) rest.1 (o.committed_numbers.files g).covers)
      (subst (λ h. CoversNames k.tree h o.world.store.names) rest.1 o.committed_numbers.names.covers)
      (subst (λ h. CoversBirths k.tree h o.world.store.names) rest.1 o.committed_numbers.births)

  pub disk_explained : IsDiskVisible k → IsDiskExplained S k word o.history o.world.store
  disk_explained visible = record {
    joined = (o.explained visible).joined;
    marked = (o.explained visible).marked;
    past = (o.explained visible).past;
    now = λ j low high. explains_cut j o.world.store.paths o.world.store.state ((o.explained visible).now j low high);
  }
