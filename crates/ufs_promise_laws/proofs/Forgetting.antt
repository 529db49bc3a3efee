-- What is known of the commits of a file that is committed as it is says no more than nothing does.
use Rattle.std.proofs.Common.{◌≡◌, ◌≢◌, ℕ, ◌⊎◌, inl, inr, Option, Some, None, [], ap, sym, ◌∙◌, subst}
use Rattle.std.specs.Prelude.{unwrap_or}
use Rattle.std.specs.Cmp.{nat_cmp_total}
use Rattle.std.specs.FinMap as map
use Rattle.std.specs.FinMap.{nat_cmp-IsAntisymmetric}
use Rattle.ufs_calls.proofs.Facts.Inserts.{insert_same}
use Rattle.ufs_file.specs.Hand.{FileState}
use Rattle.ufs_files.specs.Files.{AreNumbered, Files}
use Rattle.ufs_files.proofs.MapLemmas.{one_or_apart}
use Rattle.ufs_model.proofs.Facts.Lookups as lookups
use Rattle.ufs_model.proofs.Facts.Lookups.{same_some}
use Rattle.ufs_file_commits.specs.State.{CommitState, DurableState, IsNoted, file_cleaned, file_committed, state_of}
use Rattle.ufs_promise_laws.specs.Parts.{Commits, Parts, committed_as, durable_in, with_file}
use Rattle.ufs_promise_laws.proofs.Puts.{durable_here, either}
use Rattle.ufs_promise_laws.specs.Syncs.{CommittedIsForgotten, PutBackAsItWas, TellsTheSame}

committed_same : (x : DurableState) → IsNoted x → file_committed x ≡ state_of (file_cleaned x.file) (committed_as (file_cleaned x.file))
committed_same x noted = λ i. record {
  file = file_cleaned x.file;
  log = record { inode = noted.inode i; committed = record { runs = noted.runs i; size = noted.size i }; noted = record { runs = noted.runs i; size = noted.size i } };
  dropped = [];
}

-- ---- once it is committed

module _ (p : Parts) (f : FileState) (noted : IsNoted (durable_in p.commits f)) (numbered : AreNumbered p.files) (known : (file : ℕ) → map.get p.files file ≡ None → map.get p.commits file ≡ None) where
  abbrev y : DurableState
  y = file_committed (durable_in p.commits f)

  abbrev q : Parts
  q = with_file (file_committed (durable_in p.commits f)) p.pool p

  abbrev gone : Commits
  gone = map.remove (with_file (file_committed (durable_in p.commits f)) p.pool p).commits f.file

  itself : durable_in gone y.file ≡ durable_in q.commits y.file
  itself =
      ap (λ (o : Option CommitState). state_of y.file (unwrap_or o (committed_as y.file))) (lookups.removed_here nat_cmp_total nat_cmp-IsAntisymmetric q.commits f.file)
      ∙ sym (committed_same (durable_in p.commits f) noted) ∙ sym (durable_here y p.pool p)

  pub forgetting_tells : TellsTheSame q gone
  forgetting_tells = record { each = each; known = none }
    where
      each : (file : ℕ) (h : FileState) → map.get q.files file ≡ Some h → durable_in gone h ≡ durable_in q.commits h
      each file h there = by (either y p.pool p file h there)
        where
          by : ((file ≡ f.file) × (h ≡ y.file)) ⊎ ((file ≢ f.file) × (map.get p.files file ≡ Some h)) → durable_in gone h ≡ durable_in q.commits h
          by (inl both) = subst (λ (s : FileState). durable_in gone s ≡ durable_in q.commits s) (sym both.1) itself
          by (inr both) = ap (λ (o : Option CommitState). state_of h (unwrap_or o (committed_as h))) (lookups.removed_else nat_cmp_total nat_cmp-IsAntisymmetric q.commits f.file h.file (λ e. both.0 (sym (numbered file h both.1) ∙ e)))

      none : (file : ℕ) → map.get q.files file ≡ None → map.get gone file ≡ None
      none file absent = by (one_or_apart file f.file)
        where
          by : (file ≡ f.file) ⊎ (file ≢ f.file) → map.get gone file ≡ None
          by (inl is) = ap (map.get gone) is ∙ lookups.removed_here nat_cmp_total nat_cmp-IsAntisymmetric q.commits f.file
          by (inr not) =
              lookups.removed_else nat_cmp_total nat_cmp-IsAntisymmetric q.commits f.file file not
              ∙ lookups.inserted_else nat_cmp_total nat_cmp-IsAntisymmetric p.commits f.file _ file not
              ∙ known file (sym (lookups.inserted_else nat_cmp_total nat_cmp-IsAntisymmetric p.files f.file y.file file not) ∙ absent)

-- ---- as it is

module _ (p : Parts) (f : FileState) (at : map.get p.files f.file ≡ Some f) (numbered : AreNumbered p.files) (known : (file : ℕ) → map.get p.files file ≡ None → map.get p.commits file ≡ None) where
  abbrev x : DurableState
  x = durable_in p.commits f

  abbrev table : Commits
  table = map.insert p.commits f.file (record { log = (durable_in p.commits f).log; dropped = (durable_in p.commits f).dropped })

  pub put_as_is : with_file x p.pool p ≡ record p { commits = table }
  put_as_is = ap (λ (fs : Files). record p { files = fs; commits = table }) (insert_same nat_cmp_total nat_cmp-IsAntisymmetric p.files f.file f at)

  pub keeping_tells : TellsTheSame p table
  keeping_tells = record { each = each; known = none }
    where
      each : (file : ℕ) (h : FileState) → map.get p.files file ≡ Some h → durable_in table h ≡ durable_in p.commits h
      each file h there = by (one_or_apart h.file f.file)
        where
          by : (h.file ≡ f.file) ⊎ (h.file ≢ f.file) → durable_in table h ≡ durable_in p.commits h
          by (inl is) =
              let same : h ≡ f = same_some h f (sym there ∙ ap (map.get p.files) (sym (numbered file h there) ∙ is) ∙ at) in
              subst (λ (s : FileState). durable_in table s ≡ durable_in p.commits s) (sym same)
              (ap (λ (o : Option CommitState). state_of f (unwrap_or o (committed_as f))) (lookups.inserted_here nat_cmp_total nat_cmp-IsAntisymmetric p.commits f.file _))
          by (inr not) = ap (λ (o : Option CommitState). state_of h (unwrap_or o (committed_as h))) (lookups.inserted_else nat_cmp_total nat_cmp-IsAntisymmetric p.commits f.file _ h.file not)

      none : (file : ℕ) → map.get p.files file ≡ None → map.get table file ≡ None
      none file absent = by (one_or_apart file f.file)
        where
          by : (file ≡ f.file) ⊎ (file ≢ f.file) → map.get table file ≡ None
          by (inl is) = (let clash = sym absent ∙ ap (map.get p.files) is ∙ at in absurd cc)
          by (inr not) = lookups.inserted_else nat_cmp_total nat_cmp-IsAntisymmetric p.commits f.file _ file not ∙ known file absent

pub committed_is_forgotten : CommittedIsForgotten
committed_is_forgotten g u p f numbered at sound = forgetting_tells p f (sound.each f.file f at).noted numbered sound.known

pub put_back_as_it_was : PutBackAsItWas
put_back_as_it_was g u p f numbered at sound = (put_as_is p f at numbered sound.known, keeping_tells p f at numbered sound.known)
