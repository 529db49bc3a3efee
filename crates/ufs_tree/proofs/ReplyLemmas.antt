-- Which replies are excuses.
use Rattle.std.proofs.Common.{◌≡◌, ◌↔◌, ◌⊎◌, inl, inr, IsTrue, ℕ, List, Bool, Option, Some, None, refl, ap, sym, subst, ◌∙◌}
use Rattle.ufs_model.specs.Excuses.{ExcuseFits}
use Rattle.ufs_model.specs.History.{IsExcused}
use Rattle.ufs_model.specs.PosixTree.{PosixTree}
use Rattle.ufs_model.specs.Posix.{posix}
use Rattle.ufs_model.specs.declared.data.Excuse.{Excuse}
use Rattle.ufs_model.specs.declared.data.Op.{Op}
use Rattle.ufs_model.specs.declared.data.Reply.{Reply}
use Rattle.ufs_model.specs.declared.data.Reply.TheVariants as reply
use Rattle.ufs_model.proofs.PosixReplyLemmas.{IsPlain, posix_plain}
use Rattle.ufs_tree.specs.Told.{excuse_of}

plain_tells_none : (r : Reply) → IsPlain r → excuse_of r ≡ None
plain_tells_none (reply.Excused x) plain = absurd (plain x refl)
plain_tells_none _ plain = refl

-- POSIX excuses nothing
pub posix_tells_none : (t : PosixTree) (client : ℕ) (request : Op) → excuse_of (posix t client request).1 ≡ None
posix_tells_none t client request = plain_tells_none (posix t client request).1 (posix_plain t client request)

is_excuse : (r : Reply) (x : Excuse) → excuse_of r ≡ Some x → r ≡ reply.Excused x
is_excuse (reply.Excused y) x e = cc
is_excuse r x e = cc

is_none_excused : (t : PosixTree) (client : ℕ) (request : Op) (r : Reply) → excuse_of r ≡ None → IsExcused t client request r → ⊥
is_none_excused t client request (reply.Excused y) e fits = cc
is_none_excused t client request r e fits = fits

module _ (t : PosixTree) (client : ℕ) (request : Op) where
  -- an excuse is a reply to the request exactly where it fits
  pub excuse_is_reply : (r : Reply) (x : Excuse) (told : Bool) → excuse_of r ≡ Some x → (IsTrue told ↔ ExcuseFits t client request x)
      → (IsTrue told ↔ ((r ≡ (posix t client request).1) ⊎ IsExcused t client request r))
  excuse_is_reply r x told e fits =
      subst (λ (q : Reply). IsTrue told ↔ ((q ≡ (posix t client request).1) ⊎ IsExcused t client request q)) (sym (is_excuse r x e)) (
        (λ h. inr (fits.0 h)),
        (λ h. elim h [
          | inl q ↦ absurd (let no : Some x ≡ None = ap excuse_of q ∙ posix_tells_none t client request in cc)
          | inr f ↦ fits.1 f
        ]),
      )

  -- any other reply exactly where it is the one of POSIX
  pub other_is_reply : (r : Reply) (told : Bool) → excuse_of r ≡ None → (IsTrue told ↔ (r ≡ (posix t client request).1))
      → (IsTrue told ↔ ((r ≡ (posix t client request).1) ⊎ IsExcused t client request r))
  other_is_reply r told e same =
      ((λ h. inl (same.0 h)), (λ h. elim h [ inl q ↦ same.1 q | inr f ↦ absurd (is_none_excused t client request r e f) ]))
