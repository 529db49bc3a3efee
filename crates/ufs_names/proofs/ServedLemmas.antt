-- A request that isn't refused is served.
use Rattle.std.proofs.Common.{◌≡◌, ℕ, ◌⊎◌, inl, inr, Option, None, ap, refl, sym, subst, ◌∙◌}
use Rattle.std.specs.FinMap as map
use Rattle.ufs_files.specs.Files.{Files}
use Rattle.ufs_model.specs.Asks.{desc_of_fd, fd_told}
use Rattle.ufs_model.specs.PosixTree.{IsTree, PosixTree}
use Rattle.ufs_model.specs.Posix.{posix, served, change, answer}
use Rattle.ufs_model.specs.Refusals.{refusal}
use Rattle.ufs_model.specs.declared.data.Ask.{Ask}
use Rattle.ufs_model.specs.declared.data.Desc.{Desc}
use Rattle.ufs_model.specs.declared.data.Errno.{Errno}
use Rattle.ufs_model.specs.declared.data.Op.{Op}
use Rattle.ufs_model.specs.declared.data.PartName.TheVariants as name
use Rattle.ufs_model.specs.declared.data.Reply.{Reply}
use Rattle.ufs_names.specs.NamesPart.{NamesPart, IsNamesPart}
use Rattle.ufs_model.proofs.LocalLemmas.{local}
use Rattle.ufs_names.specs.Calls.{IsServed, IsTouched}
use Rattle.ufs_names.proofs.DescAfterLemmas.{desc_after_posix}
use Rattle.ufs_names.proofs.FileLemmas.{FilesGo, FilesGoBut, but_these}
use Rattle.ufs_names.proofs.FileRequestLemmas.{same_part}

module _ (t : PosixTree) (ask : Ask) (n : NamesPart) (fs fs' : Files) where
  -- a file that the request doesn't touch has its bytes still
  stays_untouched : IsTree t → (f : ℕ) → (IsTouched t ask f → ⊥) → (map.get fs' f ≡ map.get fs f) ⊎ ((map.get (posix t ask.client ask.op).0.bytes f ≡ map.get t.bytes f → ⊥) ⊎ IsTouched t ask f) → map.get fs' f ≡ map.get fs f
  stays_untouched is f not (inl same) = same
  stays_untouched is f not (inr (inl differs)) = absurd (differs (sym ((local t t ask.client ask.op is is (λ other among. same_part t other)).others (name.File f) not)))
  stays_untouched is f not (inr (inr this)) = absurd (not this)

  pub served_answer : (desc : Option Desc) → refusal t ask.client ask.op ≡ None → IsNamesPart n (change t ask.client ask.op) → FilesGoBut (IsTouched t ask) t (change t ask.client ask.op) fs fs'
      → desc ≡ desc_of_fd (change t ask.client ask.op).fds ask.client (fd_told ask.op (answer t ask.client ask.op)) → IsServed t ask n fs fs' (answer t ask.client ask.op) desc
  served_answer desc allowed part files told =
      let go = subst (λ (o : Option Errno). FilesGoBut (IsTouched t ask) t (served t ask.client ask.op o).0 fs fs') (sym allowed) files in
      subst (λ (x : Reply). IsServed t ask n fs fs' x desc) (ap (λ (o : Option Errno). (served t ask.client ask.op o).1) allowed) (record {
        replied = refl;
        goes_on = subst (λ (o : Option Errno). IsNamesPart n (served t ask.client ask.op o).0) (sym allowed) part;
        files = go.files;
        told = record {
          this = subst (λ (o : Option Errno). desc ≡ desc_of_fd (served t ask.client ask.op o).0.fds ask.client (fd_told ask.op (served t ask.client ask.op o).1)) (sym allowed) told;
          others = (desc_after_posix t ask.client ask.op).others;
        };
        go_on = go.go_on;
        untouched = λ f not. stays_untouched go.tree f not (go.changed f);
      })

  -- of a request of this form, where a file that it touches may have changed without other bytes
  pub served_but : (request : Op) (desc : Option Desc) → ask.op ≡ request → refusal t ask.client request ≡ None → IsNamesPart n (change t ask.client request)
      → FilesGoBut (IsTouched t ask) t (change t ask.client request) fs fs'
      → desc ≡ desc_of_fd (change t ask.client request).fds ask.client (fd_told request (answer t ask.client request)) → IsServed t ask n fs fs' (answer t ask.client ask.op) desc
  served_but request desc of allowed part files told =
      served_answer desc (ap (refusal t ask.client) of ∙ allowed) (subst (λ (r : Op). IsNamesPart n (change t ask.client r)) (sym of) part)
      (subst (λ (r : Op). FilesGoBut (IsTouched t ask) t (change t ask.client r) fs fs') (sym of) files)
      (subst (λ (r : Op). desc ≡ desc_of_fd (change t ask.client r).fds ask.client (fd_told r (answer t ask.client r))) (sym of) told)

  -- and where none may
  pub served_as : (request : Op) (desc : Option Desc) → ask.op ≡ request → refusal t ask.client request ≡ None → IsNamesPart n (change t ask.client request) → FilesGo t (change t ask.client request) fs fs'
      → desc ≡ desc_of_fd (change t ask.client request).fds ask.client (fd_told request (answer t ask.client request)) → IsServed t ask n fs fs' (answer t ask.client ask.op) desc
  served_as request desc of allowed part files told = served_but request desc of allowed part (but_these (IsTouched t ask) t (change t ask.client request) fs fs' files) told
