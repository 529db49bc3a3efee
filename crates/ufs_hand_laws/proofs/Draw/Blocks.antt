-- After a draw committed blocks are kept, and the disk has what isn't in memory.
use Rattle.std.proofs.Common.{◌≡◌, ℕ, ◌+◌, ◌≤◌, eqb, List, [], ◌++◌, Some, None, sym, ap, ◌∙◌, subst, ⊎_elim, arith}
use Rattle.std.specs.FinMap as fin
use native.Mathlib.Decide.{dec_le}
use Rattle.ufs_model.specs.PosixTree.{PosixTree}
use Rattle.ufs_model.specs.Touched.{holds}
use Rattle.ufs_hand_laws.specs.Owned.{present, Has, count}
use Rattle.std.specs.Prelude.{slice_get}
use Rattle.ufs_crash_laws.specs.Changes.{change_of}
use Rattle.ufs_hand_laws.specs.Covers.{step_in}
use Rattle.ufs_hand_laws.specs.Parts.{FilePart, NamesPart, StorePart, only_one, is_holder}
use Rattle.ufs_hand_laws.specs.CommittedHeld.{IsCommittedHeld}
use Rattle.ufs_hand_laws.specs.DiskBytes.{HasDiskBytes, IsOnDisk}
use Rattle.ufs_hand_laws.specs.Holds.{AreHoldsTrue}
use Rattle.ufs_hand_laws.specs.Draws.{new_file}
use Rattle.ufs_hand_laws.proofs.Owning.{has_count, replaced_else, replaced_count}
use Rattle.ufs_hand_laws.proofs.Keys.{itself, alike}
use Rattle.ufs_hand_laws.proofs.Exchange.{value_is, names_single}
use Rattle.ufs_hand_laws.proofs.Draw.Setting.{Draw, outcome, push, names_kept, names_same, rising}
use Rattle.ufs_hand_laws.proofs.Draw.Cases.{file_case, names_case, store_same}
use Rattle.ufs_hand_laws.specs.Visible.{IsDiskVisible}

module _ (draw : Draw) where
  open draw use {k, views, i, v, l, live, o, at, m}
  open outcome draw use {e, before, w, next_world, longer, d}

  -- ---- blocks

  extents_same : (g : ℕ) (bs : List ℕ) → fin.get next_world.store.extents g ≡ Some bs → fin.get o.world.store.extents g ≡ Some bs
  extents_same g bs x = ap (λ (s : StorePart). fin.get s.extents g) (sym (store_same draw)) ∙ x

  dirs_same : (b : ℕ) → Has b next_world.store.dirs → Has b o.world.store.dirs
  dirs_same b x = subst (λ (s : StorePart). Has b s.dirs) (store_same draw) x

  -- what a hand's names keep is what all names keep
  names_have : (n : NamesPart) → Has (tt, n) l.names → next_world.names ≡ n
  names_have n x = value_is w.names o.world.names n (names_single views i v w at o.world o.one_hand (names_kept draw)) x

  dropped_stay : (g : ℕ) (bs : List ℕ) → Has (g, bs) o.world.names.dropped → Has (g, bs) next_world.names.dropped
  dropped_stay g bs x = ⊎_elim
      (λ (y : (count only_one tt v.names ≡ 0) × (next_world.names ≡ o.world.names)). subst (λ (z : NamesPart). Has (g, bs) z.dropped) (sym y.1) x)
      (λ y. subst (λ (z : NamesPart). Has (g, bs) z.dropped) (sym y.2) (y.4 g bs x)) (names_case draw)

  pub committed_after : IsCommittedHeld k longer next_world
  committed_after = record {
    live = λ g bs b p ext has is. ⊎_elim
        (λ (x : Has (g, p) l.files × ((q : FilePart) × Has (g, q) v.files × (o.world.file g ≡ Some q) × (p ≡ record q { bytes = p.bytes; changes = q.changes ++ change_of g (step_in before e); blocks = p.blocks; quarantine = p.quarantine; spare = p.spare; loaded = p.loaded }))).
        m.kept g x.1.0 p x.1.1 x.0 b (o.committed_held.live g bs b x.1.0 (extents_same g bs ext) has x.1.2))
        (⊎_elim
        (λ (x : (g ≡ before.next) × (p ≡ new_file)). let n = o.committed_held.numbered g bs (extents_same g bs ext) in absurd (omega (arith, x.0)))
        (λ (x : (count eqb g v.files ≡ 0) × (count eqb g l.files ≡ 0) × (o.world.file g ≡ Some p)). o.committed_held.live g bs b p (extents_same g bs ext) has x.2))
        ((file_case draw) g p is);
    dropped = λ g bs b ext has is. dropped_at g bs b ext has is (dec_le 1 (count eqb g v.files));
    dirs = λ b x. ⊎_elim
        (λ (y : (count only_one tt v.names ≡ 0) × (next_world.names ≡ o.world.names)). subst (λ (z : NamesPart). Has b z.blocks) (sym y.1) (o.committed_held.dirs b (dirs_same b x)))
        (λ y. subst (λ (z : NamesPart). Has b z.blocks) (sym y.2) (y.5 b (o.committed_held.dirs b (dirs_same b x)))) (names_case draw);
    numbered = λ g bs ext. let a = o.committed_held.numbered g bs (extents_same g bs ext) in let b = (rising draw) in let c = ap (λ (t : PosixTree). t.next) (push draw) in omega arith;
  }
    where
      gone : (g : ℕ) → next_world.file g ≡ None → 1 ≤ count eqb g v.files + count eqb g l.files → count eqb g l.files ≡ 0
      gone g is c = let a = replaced_count eqb itself alike v.files l.files o.world.file d.single g c in let b : present (next_world.file g) ≡ 0 = ap present is in omega arith

      dropped_at : (g : ℕ) (bs : List ℕ) (b : ℕ) → fin.get next_world.store.extents g ≡ Some bs → Has b bs → next_world.file g ≡ None → Dec (1 ≤ count eqb g v.files) → (q : List ℕ) × Has (g, q) next_world.names.dropped × Has b q
      dropped_at g bs b ext has is (yes c) =
          let p = has_count eqb itself alike g v.files c in
          let dr = m.dropped g p.0 p.1 (gone g is (omega arith)) in
          (dr.2, subst (λ (z : NamesPart). Has (g, dr.2) z.dropped) (sym (names_have dr.0 dr.1)) dr.3, dr.4 b (o.committed_held.live g bs b p.0 (extents_same g bs ext) has (o.one_hand.files.agree i v at g p.0 p.1)))
      dropped_at g bs b ext has is (no c) = by (dec_le 1 (count eqb g l.files))
        where
          by : Dec (1 ≤ count eqb g l.files) → (q : List ℕ) × Has (g, q) next_world.names.dropped × Has b q
          by (yes n) = let z = gone g is (omega arith) in absurd (omega arith)
          by (no n) =
              let was : o.world.file g ≡ None = sym (replaced_else eqb itself alike v.files l.files o.world.file g (omega arith) (omega arith)) ∙ is in
              let q = o.committed_held.dropped g bs b (extents_same g bs ext) has was in
              (q.0, dropped_stay g q.0 q.1, q.2)

  pub disk_after : IsDiskVisible k → HasDiskBytes next_world
  disk_after visible g p is = subst (λ (s : StorePart). IsOnDisk p s.state) (sym (store_same draw)) (⊎_elim
      (λ (x : Has (g, p) l.files × ((q : FilePart) × Has (g, q) v.files × (o.world.file g ≡ Some q) × (p ≡ record q { bytes = p.bytes; changes = q.changes ++ change_of g (step_in before e); blocks = p.blocks; quarantine = p.quarantine; spare = p.spare; loaded = p.loaded }))).
      λ place b there out.
      let was = m.loaded g x.1.0 p x.1.1 x.0 place b there out in
      o.disk_bytes visible g x.1.0 x.1.2 place b was.0 was.1 ∙ sym was.2)
      (⊎_elim
      (λ (x : (g ≡ before.next) × (p ≡ new_file)). λ place b there out. let n : slice_get [] place ≡ Some b = ap (λ (z : FilePart). slice_get z.blocks place) (sym x.1) ∙ there in absurd (no_block place b n))
      (λ (x : (count eqb g v.files ≡ 0) × (count eqb g l.files ≡ 0) × (o.world.file g ≡ Some p)). o.disk_bytes visible g p x.2))
      ((file_case draw) g p is))
    where
      no_block : (place b : ℕ) → slice_get [] place ≡ Some b → ⊥
      no_block place b e = cc

  pub holds_after : AreHoldsTrue k longer next_world
  holds_after c g = ⊎_elim
      (λ (x : (count only_one tt v.names ≡ 0) × (next_world.names ≡ o.world.names)). ap (λ (z : NamesPart). is_holder z.holds c g) x.1 ∙ o.holds c g ∙ ((names_same draw) x.0).2 c g)
      (λ x. ap (λ (z : NamesPart). is_holder z.holds c g) x.2 ∙ d.holds tt x.0 x.1 c g) (names_case draw)
      ∙ sym (ap (λ (t : PosixTree). holds t.fds c g) (push draw))
