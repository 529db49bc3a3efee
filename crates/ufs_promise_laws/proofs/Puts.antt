-- A file in the place of the one of its number.
use Rattle.std.proofs.Common.{◌≡◌, ◌≢◌, ℕ, ◌⊎◌, inl, inr, Option, Some, ap, sym, ◌∙◌}
use Rattle.std.specs.Prelude.{unwrap_or}
use Rattle.std.specs.Cmp.{nat_cmp_total}
use Rattle.std.specs.FinMap as map
use Rattle.std.specs.FinMap.{nat_cmp-IsAntisymmetric}
use Rattle.ufs_bitmap.specs.Blocks.{BlockSet}
use Rattle.ufs_file.specs.Hand.{FileState}
use Rattle.ufs_files.proofs.MapLemmas.{one_or_apart, put_else, put_here}
use Rattle.ufs_model.proofs.Facts.Lookups as lookups
use Rattle.ufs_model.proofs.Facts.Lookups.{same_some}
use Rattle.ufs_file_commits.specs.State.{CommitState, DurableState, state_of}
use Rattle.ufs_promise_laws.specs.Parts.{Parts, committed_as, durable_in, with_file}

module _ (x : DurableState) (pool : BlockSet) (p : Parts) where
  abbrev k : ℕ
  k = x.file.file

  abbrev commit : CommitState
  commit = record { log = x.log; dropped = x.dropped }

  abbrev q : Parts
  q = with_file x pool p

  -- the file itself
  pub durable_here : durable_in q.commits x.file ≡ x
  durable_here = ap (λ (o : Option CommitState). state_of x.file (unwrap_or o (committed_as x.file))) (lookups.inserted_here nat_cmp_total nat_cmp-IsAntisymmetric p.commits k commit)

  -- and another one
  pub durable_else : (s : FileState) → s.file ≢ k → durable_in q.commits s ≡ durable_in p.commits s
  durable_else s not = ap (λ (o : Option CommitState). state_of s (unwrap_or o (committed_as s))) (lookups.inserted_else nat_cmp_total nat_cmp-IsAntisymmetric p.commits k commit s.file not)

  pub here : map.get q.files k ≡ Some x.file
  here = put_here p.files k x.file

  pub other_file : (f : ℕ) → f ≢ k → map.get q.files f ≡ map.get p.files f
  other_file f not = put_else p.files k x.file f not

  -- whichever file is here
  pub either : (f : ℕ) (s : FileState) → map.get q.files f ≡ Some s → ((f ≡ k) × (s ≡ x.file)) ⊎ ((f ≢ k) × (map.get p.files f ≡ Some s))
  either f s there = by (one_or_apart f k)
    where
      by : (f ≡ k) ⊎ (f ≢ k) → ((f ≡ k) × (s ≡ x.file)) ⊎ ((f ≢ k) × (map.get p.files f ≡ Some s))
      by (inl is) = inl (is, same_some s x.file (sym there ∙ ap (map.get q.files) is ∙ here))
      by (inr not) = inr (not, sym (other_file f not) ∙ there)
