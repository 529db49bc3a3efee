-- A file is written, committed and synced.
use Rattle.std.proofs.Common.{◌≡◌, ℕ, zero, suc, ◌+◌, ◌≤◌, Bool, true, false, eqb, List, [], ◌∷◌, length, set, Some, sym, refl, ap, ◌∙◌, subst, inl, arith, length-append}
use Rattle.std.specs.Prelude.{slice_get}
use mathlib.Core.Option.{some}
use lib.ListN.{get_elem?}
use Rattle.ufs_model.specs.Laws.{KeepsTrees, Locality, MakesOneFile}
use Rattle.ufs_model.specs.FileBytes.{put_at}
use Rattle.ufs_model.specs.declared.data.Actor.TheVariants.{Primary}
use Rattle.ufs_model.specs.declared.data.Lease.{Lease}
use Rattle.ufs_model.specs.declared.data.Op.TheVariants as op
use Rattle.ufs_hand_laws.specs.Owned.{one, Has}
use Rattle.ufs_hand_laws.specs.Parts.{ClientPart, View, Word, Start}
use Rattle.ufs_hand_laws.specs.DiskBytes.{is_loaded, block_in}
use Rattle.ufs_hand_laws.specs.Draws.{MayDraw}
use Rattle.ufs_hand_laws.specs.Events.{committed_part}
use Rattle.ufs_hand_laws.specs.Explained.{Showing}
use Rattle.ufs_hand_laws.specs.Marks.{IsSingle}
use Rattle.ufs_hand_laws.specs.Sound.{IsSound}
use Rattle.ufs_hand_laws.specs.Synced
use Rattle.ufs_hand_laws.specs.Synced.{Writing, writer, CanBeSynced, IsSynced}
use Rattle.ufs_hand_laws.proofs.Asking.{ask_sound}
use Rattle.ufs_hand_laws.proofs.Drawn.{draw_sound}
use Rattle.ufs_hand_laws.proofs.Drawable.{sync_may_draw}
use Rattle.ufs_hand_laws.proofs.Writable.{write_may_draw}
use Rattle.ufs_hand_laws.proofs.Happening.FileCommit.{commit_remakes}
use Rattle.ufs_hand_laws.proofs.Marking.{remake_sound}
use Rattle.ufs_hand_laws.proofs.OneTicket.{set_at}

set_twice : (l : List View) (i : ℕ) (a b : View) → set (set l i a) i b ≡ set l i b
set_twice [] i a b = refl
set_twice (x ∷ l) zero a b = refl
set_twice (x ∷ l) (suc i) a b = ap (λ r. x ∷ r) (set_twice l i a b)

module _ (keeps : KeepsTrees) (local : Locality) (makes : MakesOneFile) (S : Showing) (k : Start) (word : Word) (views : List View) (i : ℕ) (x : Writing) (o : IsSound S k word views) (at : get_elem? views i ≡ some (writer x word.tickets)) (can : CanBeSynced S k word.tickets x) where
  abbrev n : ℕ
  n = word.tickets

  abbrev later : Word
  later = record { tickets = suc n; clock = word.clock }

  abbrev last : Word
  last = record { tickets = suc (suc n); clock = word.clock }

  abbrev v1 : View
  v1 = Synced.write_asked x n

  abbrev v2 : View
  v2 = Synced.write_drawn x n

  abbrev v3 : View
  v3 = Synced.write_committed x n

  abbrev v4 : View
  v4 = Synced.sync_asked x n

  here : (w : View) → get_elem? (set views i w) i ≡ some w
  here w = set_at views i (writer x n) w at

  -- a step from what stands at the seat
  then : (word' : Word) (a b : View) → IsSound S k word' (set (set views i a) i b) → IsSound S k word' (set views i b)
  then word' a b = subst (IsSound S k word') (set_twice views i a b)

  after_ask : IsSound S k word (set views i v1)
  after_ask = ask_sound S k word views i (writer x n) 0 (op.Pwrite x.fd x.bytes x.at) o at (record { self = x.self; client = inl refl; before = x.before; asked = inl refl; idle = can.idle; room = (let r = can.room in omega arith); copies = x.self.copies; kept = λ l h. h })

  loaded : (place b : ℕ) → slice_get x.part.blocks place ≡ Some b → is_loaded x.part place ≡ false → block_in (put_at x.part.bytes x.at x.bytes) place ≡ block_in x.part.bytes place
  loaded place b there out = absurd (both (sym (can.in_memory place b there) ∙ out))
    where
      both : true ≡ false → ⊥
      both e = cc

  no_lease : (z : Lease) → Has z x.part.leases → z.until ≤ v1.clock
  no_lease z h = absurd (subst (Has z) can.no_lease h)

  may_write : MayDraw (Synced.written x n) v1 (record { fds = x.self.fds; files = (x.file, Synced.written_part x n) ∷ []; names = [] }) []
  may_write = write_may_draw 0 (length x.self.entries) x.fd x.at x.file x.bytes Primary v1 (record x.self { asked = Some (op.Pwrite x.fd x.bytes x.at) }) (inl refl) (omega arith) refl refl can.desc can.open' can.leave can.of x.part refl can.some' can.fits no_lease loaded

  after_write : IsSound S k later (set views i v2)
  after_write = then later v1 v2 (draw_sound (record { keeps = keeps; local = local; makes = makes; S = S; k = k; word = word; views = set views i v1; i = i; v = v1; f = Synced.written x n; l = record { fds = x.self.fds; files = (x.file, Synced.written_part x n) ∷ []; names = [] }; known = []; live = λ z none. absurd none; o = after_ask; at = here v1; m = may_write }))

  after_commit : IsSound S k later (set views i v3)
  after_commit = then later v2 v3 (remake_sound keeps S k later (set views i v2) i v2 v3 after_write (here v2) (commit_remakes S k (suc n) v2 x.file (Synced.written_part x n) x.store x.through x.state can.commit))

  abbrev wrote : ClientPart
  wrote = Synced.wrote x n

  after_second_ask : IsSound S k later (set views i v4)
  after_second_ask = then later v3 v4 (ask_sound S k later (set views i v3) i v3 0 (op.Fsync x.fd) after_commit (here v3)
      (record { self = wrote; client = inl refl; before = record { entries = x.self.entries; fds = x.self.fds; copies = x.self.copies; asked = Some (op.Pwrite x.fd x.bytes x.at); tickets = n }; asked = inl refl; idle = refl; room = (let r = can.room in let a = length-append x.self.entries (Rattle.ufs_hand_laws.specs.Draws.entry_of n (Synced.written x n) ∷ []) in omega arith); copies = x.self.copies; kept = λ l h. h }))

  single : IsSingle v4
  single = record { files = λ g. few (eqb g x.file); names = omega arith; store = omega arith }
    where
      few : (b : Bool) → one b + 0 ≤ 1
      few true = omega arith
      few false = omega arith

  may_sync : MayDraw (Synced.synced x n) v4 (record { fds = x.self.fds; files = (x.file, committed_part (Synced.written_part x n)) ∷ []; names = [] }) []
  may_sync = sync_may_draw 0 (length wrote.entries) x.fd x.file Primary v4 single (record wrote { asked = Some (op.Fsync x.fd) }) (inl refl) (omega arith) refl refl can.desc can.open' can.of (committed_part (Synced.written_part x n)) (inl refl) (omega arith) can.born

  after_sync : IsSound S k last (set views i (Synced.sync_drawn x n))
  after_sync = then last v4 (Synced.sync_drawn x n) (draw_sound (record { keeps = keeps; local = local; makes = makes; S = S; k = k; word = later; views = set views i v4; i = i; v = v4; f = Synced.synced x n; l = record { fds = x.self.fds; files = (x.file, committed_part (Synced.written_part x n)) ∷ []; names = [] }; known = []; live = λ z none. absurd none; o = after_second_ask; at = here v4; m = may_sync }))

  pub is_synced : IsSynced S k word views i x
  is_synced = record { after_ask = after_ask; after_write = after_write; after_commit = after_commit; after_second_ask = after_second_ask; after_sync = after_sync }
