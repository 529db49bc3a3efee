-- Each state of a lease, from its grant to its return, is sound.
use Rattle.std.proofs.Common.{◌≡◌, ◌<◌, ℕ, suc, [], ◌∷◌, length, Some, sym, refl, subst, inl, inr, arith}
use Rattle.std.proofs.lemmas.List.{length-append}
use Rattle.ufs_model.specs.Laws.{KeepsTrees, Locality, MakesOneFile}
use Rattle.ufs_model.specs.declared.data.Actor.TheVariants.{Primary}
use Rattle.ufs_model.specs.declared.data.Lease.{Lease}
use Rattle.ufs_model.specs.declared.data.Op.TheVariants as op
use Rattle.ufs_model.specs.declared.data.PartName.TheVariants as name
use Rattle.ufs_hand_laws.specs.Draws.{MayDraw, entry_of}
use Rattle.ufs_hand_laws.specs.Explained.{Showing}
use Rattle.ufs_hand_laws.specs.Leased as Leased
use Rattle.ufs_hand_laws.specs.Leased.{Reading, CanBeLeased, IsLeased}
use Rattle.ufs_hand_laws.specs.Marks.{IsSingle}
use Rattle.ufs_hand_laws.specs.Owned.{Has}
use Rattle.ufs_hand_laws.specs.Parts.{View, Word, Start, spent}
use Rattle.ufs_hand_laws.specs.Sound.{IsSound}
use Rattle.ufs_hand_laws.proofs.Apart.{split_sound, join_sound}
use Rattle.ufs_hand_laws.proofs.Asking.{ask_sound}
use Rattle.ufs_hand_laws.proofs.Drawn.{draw_sound}
use Rattle.ufs_hand_laws.proofs.LeasedReads.{leased_may_draw}
use Rattle.ufs_hand_laws.proofs.Leasing.{grant_sound, give_back_sound}
use Rattle.ufs_hand_laws.proofs.Lists.{take_whole}
use Rattle.ufs_hand_laws.proofs.Owning.{append_has, same_some}

module _ (keeps : KeepsTrees) (local : Locality) (makes : MakesOneFile) (S : Showing) (k : Start) (word : Word) (other : View) (x : Reading) (o : IsSound S k word (Leased.server x word.tickets ∷ other ∷ [])) (can : CanBeLeased word.clock x) where
  abbrev n : ℕ
  n = word.tickets

  abbrev then : Word
  then = record { tickets = suc word.tickets; clock = word.clock }

  abbrev owner : View
  owner = Leased.owner x n

  abbrev lease : Lease
  lease = Leased.whole_lease x n

  after_grant : IsSound S k word (Leased.lease_granted x n ∷ other ∷ [])
  after_grant = grant_sound S k word (Leased.server x n ∷ other ∷ []) 0 (Leased.server x n) o refl lease (record {
    self = x.self;
    client = inl refl;
    open' = λ g e. (x.fd, can.desc, can.open', subst (λ z. can.desc.file ≡ Some z) (same_some 0 g e) can.of);
    fact = (x.file, inl refl, refl, take_whole (length x.file.bytes) x.file.bytes refl);
    ends = can.ends;
  })

  after_split : IsSound S k word (Leased.reader x n ∷ other ∷ owner ∷ [])
  after_split = split_sound S k word (Leased.lease_granted x n ∷ other ∷ []) 0 (name.File 0) (Leased.lease_granted x n) after_grant refl

  after_ask : IsSound S k word (Leased.read_asked x n ∷ other ∷ owner ∷ [])
  after_ask = ask_sound S k word (Leased.reader x n ∷ other ∷ owner ∷ []) 0 (Leased.reader x n) 0 (op.Pread x.fd x.count x.at) after_split refl
      (record { self = Leased.holding x n; client = inl refl; before = x.before; asked = inl refl; idle = can.idle; room = (let r = can.room in omega arith); copies = (Leased.holding x n).copies; kept = λ l h. h })

  single : IsSingle (Leased.read_asked x n)
  single = record { files = λ g. omega arith; names = omega arith; store = omega arith }

  may_read : MayDraw (Leased.read x n) (Leased.read_asked x n) (record { fds = x.self.fds; files = []; names = [] }) (lease ∷ [])
  may_read = leased_may_draw 0 (length x.self.entries) x.fd x.count x.at 0 x.until x.file.bytes Primary (Leased.read_asked x n) single (record (Leased.holding x n) { asked = Some (op.Pread x.fd x.count x.at) }) (inl refl) (omega arith) refl refl can.desc can.open' can.leave can.of
      (append_has lease x.self.copies (lease ∷ []) (inr (inl refl)))

  lives : (z : Lease) → Has z (lease ∷ []) → word.clock < z.until
  lives z (inl e) = subst (λ (y : Lease). word.clock < y.until) (sym e) can.live
  lives z (inr e) = absurd e

  after_read : IsSound S k then (Leased.read_drawn x n ∷ other ∷ owner ∷ [])
  after_read = draw_sound (record { keeps = keeps; local = local; makes = makes; S = S; k = k; word = word; views = Leased.read_asked x n ∷ other ∷ owner ∷ []; i = 0; v = Leased.read_asked x n; f = Leased.read x n; l = record { fds = x.self.fds; files = []; names = [] }; known = lease ∷ []; live = lives; o = after_ask; at = refl; m = may_read })

  after_drop : IsSound S k then (Leased.lease_dropped x n ∷ other ∷ owner ∷ [])
  after_drop = ask_sound S k then (Leased.read_drawn x n ∷ other ∷ owner ∷ []) 0 (Leased.read_drawn x n) 0 (op.Pread x.fd x.count x.at) after_read refl
      (record {
        self = Leased.has_read x n;
        client = inl refl;
        before = record { entries = x.self.entries; fds = x.self.fds; copies = (Leased.holding x n).copies; asked = Some (op.Pread x.fd x.count x.at); tickets = n };
        asked = inl refl;
        idle = refl;
        room = (let r = can.room in let a = length-append x.self.entries (entry_of n (Leased.read x n) ∷ []) in omega arith);
        copies = x.self.copies;
        kept = λ l h. append_has l x.self.copies (lease ∷ []) (inl h);
      })

  after_join : IsSound S k then (Leased.met x n ∷ other ∷ spent ∷ [])
  after_join = join_sound S k then (Leased.lease_dropped x n ∷ other ∷ owner ∷ []) 0 2 (Leased.lease_dropped x n) owner after_drop refl (λ e. cc) refl

  after_return : IsSound S k then (Leased.lease_returned x n ∷ other ∷ spent ∷ [])
  after_return = give_back_sound S k then (Leased.met x n ∷ other ∷ spent ∷ []) 0 (Leased.met x n) after_join refl (name.File 0) 0 (record {
    self = record (Leased.has_read x n) { copies = x.self.copies; asked = Some (op.Pread x.fd x.count x.at) };
    client = inl refl;
    part = omega arith;
    dropped = λ l h. absurd (subst (Has l) can.no_copies h);
  })

  pub is_leased : IsLeased S k word other x
  is_leased = record { after_grant = after_grant; after_split = after_split; after_ask = after_ask; after_read = after_read; after_drop = after_drop; after_join = after_join; after_return = after_return }
