-- Files that are new by a request of the names.
use Rattle.std.proofs.Common.{◌≡◌, ◌≢◌, ℕ, List, [], Bool, true, false, ◌||◌, ◌&&◌, eqb, Option, Some, None, is_some, ap, sym, refl, ◌∙◌, subst}
use Rattle.std.specs.Prelude.{unwrap_or}
use Rattle.std.specs.FinMap as map
use Rattle.std.proofs.lemmas.Bool.{eqb-true}
use Rattle.ufs_bitmap.specs.Blocks.{BlockSet}
use Rattle.ufs_bitmap.specs.Taking.{has}
use Rattle.ufs_bitmap.proofs.TakingLemmas.{has-none}
use Rattle.ufs_file_commits.specs.State.{CommitState, DurableState, blocks_held, state_of}
use Rattle.ufs_file.specs.Hand.{FileState}
use Rattle.ufs_model.specs.PosixTree.{PosixTree}
use Rattle.ufs_names.specs.Calls.{no_bytes}
use Rattle.ufs_promise_laws.specs.Parts.{Parts, committed_as, durable_in}
use Rattle.ufs_promise_laws.specs.Requests.{IsNamesRequest}
use Rattle.ufs_promise_laws.proofs.ListedBlocks.{clash}

one_of : (a b c : Bool) → true ≡ ((a || b) && c) → a ≡ false → b ≡ true
one_of true b c e off = cc
one_of false true c e off = refl
one_of false false c e off = cc

module _ (t u : PosixTree) (p next : Parts) (lent left : BlockSet) (r : IsNamesRequest t u p next lent left) (f : ℕ) (s : FileState) (none : map.get p.files f ≡ None) (here : map.get next.files f ≡ Some s) where
  -- it has the next number,
  pub is_next : f ≡ t.next
  is_next =
      let e : true ≡ ((is_some (map.get p.files f) || eqb f t.next) && is_some (map.get u.bytes f)) = sym (ap is_some here) ∙ r.go_on.here f in
      eqb-true f t.next (one_of (is_some (map.get p.files f)) (eqb f t.next) (is_some (map.get u.bytes f)) e (ap is_some none))

  -- no byte,
  pub is_empty : s ≡ no_bytes f s.inode
  is_empty = (r.go_on.born f s none here).0

  -- nothing is known of its commits,
  pub is_unknown : map.get next.commits s.file ≡ None
  is_unknown = ap (map.get next.commits) (r.files f s here).0 ∙ r.unknown f none

  pub is_committed : durable_in next.commits s ≡ state_of (no_bytes f s.inode) (committed_as (no_bytes f s.inode))
  is_committed = ap (λ (o : Option CommitState). state_of s (unwrap_or o (committed_as s))) is_unknown ∙ ap (λ (h : FileState). state_of h (committed_as h)) is_empty

  -- and it has no block.
  pub nothing_new : (b : ℕ) → has (blocks_held (durable_in next.commits s)) b ≡ true → ⊥
  nothing_new b held = clash (has [] b) (ap (λ (d : DurableState). has (blocks_held d) b) (sym is_committed) ∙ held) (has-none b)
