-- The condition of a draw is met by a read under a lease on a whole file, by a hand that hasn't the file.
use Rattle.std.proofs.Common.{◌≡◌, ℕ, ◌<◌, ◌⊎◌, Bool, true, false, cond, eqb, List, [], ◌∷◌, length, Option, Some, None, is_some, is_none, not, unwrap_or, sym, refl, ap, ◌∙◌, subst, inl, inr}
use Rattle.std.specs.FinMap as fin
use Rattle.ufs_base.specs.Choices.{first_of, refused_if}
use Rattle.ufs_model.specs.PosixTree.{PosixTree, desc_at}
use Rattle.ufs_model.specs.Posix.{served}
use Rattle.ufs_model.specs.Refusals.{own_refusal, refusal, read_refusal}
use Rattle.ufs_model.specs.Descriptors.{opened, closed}
use Rattle.ufs_model.specs.FileBytes.{bytes_of, content, part}
use Rattle.ufs_model.specs.Touched.{IsPartOf, file_part}
use Rattle.ufs_model.specs.declared.data.Actor.{Actor}
use Rattle.ufs_model.specs.declared.data.Desc.{Desc}
use Rattle.ufs_model.specs.declared.data.Errno.{Errno}
use Rattle.ufs_model.specs.declared.data.Errno.TheVariants as errno
use Rattle.ufs_model.specs.declared.data.Fact.TheVariants.{Holds}
use Rattle.ufs_model.specs.declared.data.Lease.{Lease}
use Rattle.ufs_model.specs.declared.data.Op.TheVariants as op
use Rattle.ufs_model.specs.declared.data.Reply.TheVariants as reply
use Rattle.ufs_model.specs.declared.data.PartName.{PartName}
use Rattle.ufs_model.specs.declared.data.PartName.TheVariants as part'
use Rattle.ufs_hand_laws.specs.declared.fresh.Fresh.{Fresh}
use Rattle.ufs_hand_laws.specs.Owned.{Has}
use Rattle.ufs_hand_laws.specs.Parts.{ClientPart, View, HoldsPart}
use Rattle.ufs_hand_laws.specs.Marks.{IsSingle}
use Rattle.ufs_hand_laws.specs.LeasesTrue.{IsTrueOf}
use Rattle.ufs_hand_laws.specs.Draws.{IsUnchanged, entry_of, IsIn, IsAbsent, MayDraw}
use Rattle.ufs_hand_laws.proofs.Drawable.{known_may_draw}
use Rattle.ufs_hand_laws.proofs.Lists.{take_whole}
use Rattle.ufs_hand_laws.proofs.Owning.{count_has}
use Rattle.ufs_hand_laws.proofs.Keys.{itself, alike}

module _ (client seq fd n at g until : ℕ) (bytes : List ℕ) (by : Actor) (v : View) (single : IsSingle v) (self : ClientPart) (has : Has (client, self) v.clients) (low : client < 16) (next : seq ≡ length self.entries)
    (asked : self.asked ≡ Some (op.Pread fd n at)) (d : Desc) (open' : fin.get self.fds fd ≡ Some d) (leave : d.read ≡ true) (of : d.file ≡ Some g) where
  abbrev pub lease : Lease
  lease = record { client = client; part = part'.File g; until = until; fact = Holds 0 (length bytes) bytes }

  abbrev pub reading : Fresh
  reading = record { client = client; seq = seq; by = by; op = op.Pread fd n at; reply = reply.Got (part bytes at n) }

  module _ (t : PosixTree) (within : IsIn v t) (fact : IsTrueOf t (part'.File g) (Holds 0 (length bytes) bytes)) where
    desc_is : desc_at t client fd ≡ Some d
    desc_is = sym (within.clients client self has fd) ∙ open'

    file_is : (opened t client fd).file ≡ Some g
    file_is = ap (λ o. (unwrap_or o closed).file) desc_is ∙ of

    not_refused : refusal t client (op.Pread fd n at) ≡ None
    not_refused = ap (λ o. first_of (read_refusal o) None) desc_is ∙ (λ j. first_of (first_of (refused_if (not (leave j)) errno.Ebadf) (refused_if (is_none (of j)) errno.Eisdir)) None)

    -- the lease has them all
    bytes_are : content t.bytes (opened t client fd).file ≡ bytes
    bytes_are = ap (content t.bytes) file_is ∙ sym (take_whole (length bytes) (bytes_of t.bytes g) (sym fact.0)) ∙ fact.1

    unchanged : (o : Option Errno) → (served t client (op.Pread fd n at) o).0 ≡ t
    unchanged None = refl
    unchanged (Some e) = refl

    touches : (b : Bool) → (p : PartName) → IsPartOf (part'.Client client ∷ cond b [] (file_part (opened t client fd).file)) p → HoldsPart p v ⊎ (IsAbsent p t ⊎ IsUnchanged p t (entry_of 0 reading))
    touches b p (inl e) = inl (subst (λ y. HoldsPart y v) (sym e) (count_has eqb itself alike client self v.clients has))
    touches true p (inr e) = absurd e
    touches false p (inr e) = inr (inr (mine (subst (λ o. IsPartOf (file_part o) p) file_is e)))
      where
        mine : IsPartOf (part'.File g ∷ []) p → IsUnchanged p t (entry_of 0 reading)
        mine (inl e) = subst (λ y. IsUnchanged y t (entry_of 0 reading)) (sym e) (ap (λ (u : PosixTree). fin.get u.bytes g) (sym (unchanged (refusal t client (op.Pread fd n at)))), refl)
        mine (inr e) = absurd e

  pub leased_may_draw : Has lease self.copies → MayDraw reading v (record { fds = self.fds; files = v.files; names = v.names }) (lease ∷ [])
  leased_may_draw copy = known_may_draw reading v single self has low next asked (λ n e. cc) (λ n e. cc) (λ a b e. cc) (lease ∷ [])
      (λ x h. copied x h)
      (λ t is within live. let fact = live lease (inl refl) in record {
        replied = inl (ap (λ bs. reply.Got (part bs at n)) (sym (bytes_are t within fact)) ∙ sym (ap (λ o. (served t client (op.Pread fd n at) o).1) (not_refused t within fact)));
        touched = λ e. touches t within fact (is_some (own_refusal t client (op.Pread fd n at)));
        stays = unchanged t within fact (refusal t client (op.Pread fd n at));
        no_change = λ g. refl;
        no_names = refl;
      })
      (λ t within. record { synced = λ done. absurd (undone done); synced_names = λ done. absurd (undone done); synced_birth = λ done. absurd (undone done) })
    where
      undone : reply.Got (part bytes at n) ≡ reply.Done → ⊥
      undone e = cc

      copied : (x : Lease) → Has x (lease ∷ []) → Has x self.copies
      copied x (inl e) = subst (λ (y : Lease). Has y self.copies) (sym e) copy
      copied x (inr e) = absurd e
