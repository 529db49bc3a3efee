-- After a mark the committed blocks are kept, and no block is in two parts.
use Rattle.std.proofs.Common.{◌≡◌, ℕ, ◌<◌, ◌≤◌, eqb, List, set, Some, None, is_some, sym, ap, ◌∙◌, ⊎_elim, arith}
use Rattle.std.specs.FinMap as fin
use native.Mathlib.Decide.{dec_le}
use Rattle.ufs_model.specs.History.{tree_after}
use Rattle.ufs_hand_laws.specs.Owned.{present, Has, count}
use Rattle.ufs_hand_laws.specs.Parts.{FilePart, uses}
use Rattle.ufs_hand_laws.specs.BlocksApart.{AreBlocksApart}
use Rattle.ufs_hand_laws.specs.CommittedHeld.{IsCommittedHeld}
use Rattle.ufs_hand_laws.proofs.Owning.{change_total, has_count, replaced_else, replaced_count}
use Rattle.ufs_hand_laws.proofs.Keys.{itself, alike}
use Rattle.ufs_hand_laws.proofs.Mark.Setting.{Mark, Remade, remaking}

module _ (mark : Mark) where
  open mark use {keeps, S, k, word, views, i, v, w, o, at, m}
  open remaking mark use {remade, single_files, r, names_are_kept, file_case, file_present}

  none_before : (g : ℕ) → remade.file g ≡ None → (count eqb g v.files ≡ 0) × (o.world.file g ≡ None)
  none_before g is = by (dec_le 1 (count eqb g v.files))
    where
      by : Dec (1 ≤ count eqb g v.files) → (count eqb g v.files ≡ 0) × (o.world.file g ≡ None)
      by (yes c) = let a = replaced_count eqb itself alike v.files w.files o.world.file single_files g (omega arith) in let n : present (remade.file g) ≡ 0 = ap present is in let b = m.file_names g in absurd (omega arith)
      by (no c) = let b = m.file_names g in (omega arith, sym (replaced_else eqb itself alike v.files w.files o.world.file g (omega arith) (omega arith)) ∙ is)

  pub committed_remade : IsCommittedHeld k o.history remade
  committed_remade = record {
    live = λ g bs b y ext has is. ⊎_elim
        (λ (c : (x : FilePart) × Has (g, x) v.files × (o.world.file g ≡ Some x) × Has (g, y) w.files × Remade x y).
        r.kept.live g c.0 y c.1 c.3 (λ bs' b' ext' has'. o.committed_held.live g bs' b' c.0 ext' has' c.2) bs b ext has)
        (λ (c : (count eqb g v.files ≡ 0) × (o.world.file g ≡ Some y)). o.committed_held.live g bs b y (r.kept.away g bs c.0 ext) has c.1) (file_case g y is);
    dropped = λ g bs b ext has is. let n = none_before g is in r.kept.dropped g n.0 (λ bs' b' ext' has'. o.committed_held.dropped g bs' b' ext' has' n.1) bs b ext has;
    numbered = λ g bs ext. numbered_at g bs ext (dec_le 1 (count eqb g v.files));
    dirs = r.kept.dirs o.committed_held.dirs;
  }
    where
      numbered_at : (g : ℕ) (bs : List ℕ) → fin.get remade.store.extents g ≡ Some bs → Dec (1 ≤ count eqb g v.files) → g < (tree_after k.tree o.history).next
      numbered_at g bs ext (yes c) =
          let x = has_count eqb itself alike g v.files c in
          o.legal.tree.numbered g (ap is_some (o.legal.files g x.0 (o.one_hand.files.agree i v at g x.0 x.1)).bytes)
      numbered_at g bs ext (no c) = o.committed_held.numbered g bs (r.kept.away g bs (omega arith) ext)

  pub apart_remade : AreBlocksApart k (set views i w)
  apart_remade = record { same = λ b. change_total (uses b) views i v w at (m.uses_stay b) ∙ o.blocks_apart.same b; once = o.blocks_apart.once }
