-- The condition of a draw is met by a write to a held file.
use Rattle.std.proofs.Common.{◌≡◌, ℕ, ◌<◌, ◌≤◌, ◌⊎◌, Bool, true, false, cond, eqb, eq-eqb, ne_eqb, List, [], ◌∷◌, ◌++◌, length, Some, None, is_some, is_none, not, ◌||◌, unwrap_or, sym, refl, ap, ◌∙◌, subst, inl, inr, ⊎_elim, arith, append-nil}
use Rattle.std.specs.Prelude.{slice_get}
use Rattle.std.specs.Cmp.{nat_cmp_total}
use Rattle.std.specs.FinMap as fin
use Rattle.std.specs.FinMap.{nat_cmp-IsAntisymmetric}
use native.Mathlib.Decide.{ℕ_discrete}
use Rattle.ufs_model.specs.PosixTree.{PosixTree, desc_at}
use Rattle.ufs_model.specs.Posix.{served, written, with_bytes}
use Rattle.ufs_base.specs.Choices.{first_of, refused_if}
use Rattle.ufs_model.specs.Refusals.{refusal, own_refusal, write_refusal}
use Rattle.ufs_model.specs.Descriptors.{opened, closed}
use Rattle.ufs_model.specs.FileBytes.{content, put_at, is_past}
use Rattle.ufs_model.specs.History.{goes_on}
use Rattle.ufs_model.specs.Touched.{IsPartOf, file_part}
use Rattle.ufs_model.proofs.Facts.Lookups.{inserted_here, inserted_else}
use Rattle.ufs_model.specs.declared.data.Desc.{Desc}
use Rattle.ufs_model.specs.declared.data.Errno.TheVariants as errno
use Rattle.ufs_model.specs.declared.data.Fact.{Fact}
use Rattle.ufs_model.specs.declared.data.Fact.TheVariants as fact
use Rattle.ufs_model.specs.declared.data.Lease.{Lease}
use Rattle.ufs_model.specs.declared.data.Op.TheVariants as op
use Rattle.ufs_model.specs.declared.data.Actor.{Actor}
use Rattle.ufs_model.specs.declared.data.Reply.TheVariants as reply
use Rattle.ufs_model.specs.declared.data.PartName.{PartName}
use Rattle.ufs_model.specs.declared.data.PartName.TheVariants as name
use Rattle.ufs_hand_laws.specs.declared.fresh.Fresh.{Fresh}
use Rattle.ufs_hand_laws.specs.Owned.{one, weigh, Has, count}
use Rattle.ufs_crash_laws.specs.Changes.{change_of}
use Rattle.ufs_crash_laws.proofs.Facts.Kinds.{this_changes}
use Rattle.ufs_crash_laws.specs.declared.data.FileChange.{FileChange}
use Rattle.ufs_crash_laws.specs.declared.data.FileChange.TheVariants as change
use Rattle.ufs_hand_laws.specs.Covers.{step_in}
use Rattle.ufs_hand_laws.specs.LeasesTrue.{IsTrueOf, IsListedIn}
use Rattle.ufs_hand_laws.specs.Parts.{ClientPart, FilePart, View, file_uses, HoldsPart}
use Rattle.ufs_hand_laws.specs.DiskBytes.{is_loaded, block_in}
use Rattle.ufs_hand_laws.specs.Draws.{Leaves, entry_of, IsIn, IsAbsent, IsUnchanged, DrawsOn, MayDraw}
use Rattle.ufs_hand_laws.proofs.Owning.{count_has}
use Rattle.ufs_hand_laws.proofs.Keys.{itself, alike}

module _ (client seq fd at g : ℕ) (bytes : List ℕ) (by : Actor) (v : View) (self : ClientPart) (has : Has (client, self) v.clients) (low : client < 16) (next : seq ≡ length self.entries)
    (asked : self.asked ≡ Some (op.Pwrite fd bytes at)) (d : Desc) (open' : fin.get self.fds fd ≡ Some d) (leave : d.write ≡ true) (of : d.file ≡ Some g) (x : FilePart) (held : v.files ≡ (g, x) ∷ [])
    (some : eqb (length bytes) 0 ≡ false) (fits : is_past at bytes ≡ false)
    (free : (z : Lease) → Has z x.leases → z.until ≤ v.clock)
    (in_memory : (place b : ℕ) → slice_get x.blocks place ≡ Some b → is_loaded x place ≡ false → block_in (put_at x.bytes at bytes) place ≡ block_in x.bytes place) where
  abbrev writing : Fresh
  writing = record { client = client; seq = seq; by = by; op = op.Pwrite fd bytes at; reply = reply.Count (length bytes) }

  abbrev new : List ℕ
  new = put_at x.bytes at bytes

  abbrev y : FilePart
  y = record x { bytes = new; changes = x.changes ++ change.Written at bytes ∷ [] }

  abbrev leaves : Leaves
  leaves = record { fds = self.fds; files = (g, y) ∷ []; names = v.names }

  there : Has (g, x) v.files
  there = subst (Has {A = ℕ × FilePart} (g, x)) (sym held) (inl refl)

  mine : (h : ℕ) (z : FilePart) → Has (h, z) v.files → (h ≡ g) × (z ≡ x)
  mine h z a = ⊎_elim (λ (e : (h, z) ≡ (g, x)). (ap (λ (q : ℕ × FilePart). q.0) e, ap (λ (q : ℕ × FilePart). q.1) e)) (λ e. absurd e) (subst (Has {A = ℕ × FilePart} (h, z)) held a)

  left : (h : ℕ) (z : FilePart) → Has (h, z) leaves.files → (h ≡ g) × (z ≡ y)
  left h z a = ⊎_elim (λ (e : (h, z) ≡ (g, y)). (ap (λ (q : ℕ × FilePart). q.0) e, ap (λ (q : ℕ × FilePart). q.1) e)) (λ e. absurd e) a

  module _ (t : PosixTree) (within : IsIn v t) where
    abbrev after : PosixTree
    after = record t { bytes = fin.insert t.bytes g new }

    desc_is : desc_at t client fd ≡ Some d
    desc_is = sym (within.clients client self has fd) ∙ open'

    file_is : (opened t client fd).file ≡ Some g
    file_is = ap (λ o. (unwrap_or o closed).file) desc_is ∙ of

    old_is : content t.bytes (Some g) ≡ x.bytes
    old_is = ap (λ o. unwrap_or o []) (within.files g x there)

    not_refused : refusal t client (op.Pwrite fd bytes at) ≡ None
    not_refused =
        ap (λ o. first_of (write_refusal o) (refused_if (is_past at bytes) errno.Efbig)) desc_is
        ∙ (λ j. first_of (refused_if (not (leave j) || is_none (of j)) errno.Ebadf) (refused_if (fits j) errno.Efbig))

    goes_is : goes_on t (entry_of 0 writing) ≡ after
    goes_is =
        ap (λ o. (served t client (op.Pwrite fd bytes at) o).0) not_refused
        ∙ ap (λ o. written t o at bytes) file_is
        ∙ (λ j. cond (some j) t (with_bytes t (Some g) (put_at (old_is j) at bytes)))

    change_is : change_of g (step_in t (entry_of 0 writing)) ≡ change.Written at bytes ∷ []
    change_is = this_changes (step_in t (entry_of 0 writing)) g refl file_is ∙ ap (λ b. cond {A = List FileChange} b [] (change.Written at bytes ∷ [])) some

    touches : (b : Bool) → (p : PartName) → IsPartOf (name.Client client ∷ cond b [] (file_part (opened t client fd).file)) p → HoldsPart p v ⊎ (IsAbsent p t ⊎ IsUnchanged p t (entry_of 0 writing))
    touches b p (inl e) = inl (subst (λ q. HoldsPart q v) (sym e) (count_has eqb itself alike client self v.clients has))
    touches true p (inr e) = absurd e
    touches false p (inr e) = inl (own (subst (λ o. IsPartOf (file_part o) p) file_is e))
      where
        own : IsPartOf (name.File g ∷ []) p → HoldsPart p v
        own (inl e) = subst (λ q. HoldsPart q v) (sym e) (count_has eqb itself alike g x v.files there)
        own (inr e) = absurd e

    here : fin.get after.bytes g ≡ Some new
    here = inserted_here nat_cmp_total nat_cmp-IsAntisymmetric t.bytes g new

    else : (h : ℕ) → (h ≡ g → ⊥) → fin.get after.bytes h ≡ fin.get t.bytes h
    else h ne = inserted_else nat_cmp_total nat_cmp-IsAntisymmetric t.bytes g new h ne

    own_at : (h : ℕ) → Dec (h ≡ g) → (1 ≤ count eqb h v.files) ⊎ (fin.get t.bytes h ≡ None) → count eqb h leaves.files ≡ one (is_some (fin.get after.bytes h))
    own_at h (yes s) o =
        let a : one (eqb h g) ≡ 1 = ap one (eq-eqb h g s) in
        let b : one (is_some (fin.get after.bytes h)) ≡ 1 = ap (λ q. one (is_some (fin.get after.bytes q))) s ∙ ap (λ q. one (is_some q)) here in
        omega arith
    own_at h (no s) (inl c) = let a : count eqb h v.files ≡ count eqb h ((g, x) ∷ []) = ap (count eqb h) held in let b : one (eqb h g) ≡ 0 = ap one (ne_eqb h g s) in absurd (omega arith)
    own_at h (no s) (inr e) =
        let a : one (eqb h g) ≡ 0 = ap one (ne_eqb h g s) in
        let b : one (is_some (fin.get after.bytes h)) ≡ 0 = ap (λ q. one (is_some q)) (else h s ∙ e) in
        omega arith

    leased : (z : Lease) (p : PartName) → IsListedIn v z p → v.clock < z.until → IsTrueOf t p z.fact → IsTrueOf after p z.fact
    leased z (name.File h) listed live told =
        let same = mine h listed.0 listed.1 in
        let old = free z (subst (λ (q : FilePart). Has z q.leases) same.1 listed.2) in absurd (omega arith)
    leased z name.Names listed live told = of_names z.fact told
      where
        of_names : (q : Fact) → IsTrueOf t name.Names q → IsTrueOf after name.Names q
        of_names (fact.Holds a b c) e = tt
        of_names (fact.Resolves a b) e = e
    leased z (name.Client c) listed live told = absurd listed
    leased z (name.Asked c) listed live told = absurd listed
    leased z name.Store listed live told = absurd listed

    draws : DrawsOn writing self v leaves t
    draws = record {
      replied = inl (sym (ap (λ o. (served t client (op.Pwrite fd bytes at) o).1) not_refused));
      touched = λ _. touches (is_some (own_refusal t client (op.Pwrite fd bytes at)));
      fds = λ n. within.clients client self has n ∙ ap (λ (u : PosixTree). desc_at u client n) (sym goes_is);
      bytes = λ h z a. let e = left h z a in
          ap (λ (u : PosixTree). fin.get u.bytes h) goes_is ∙ ap (λ n. fin.get after.bytes n) e.0 ∙ here ∙ ap (λ (q : FilePart). Some q.bytes) (sym e.1);
      files = λ h z a. let e = left h z a in
          inl (subst (λ (u : ℕ × FilePart). (p : FilePart) × Has (u.0, p) v.files × (u.1 ≡ record p { bytes = u.1.bytes; changes = p.changes ++ change_of u.0 (step_in t (entry_of 0 writing)); blocks = u.1.blocks; quarantine = u.1.quarantine; spare = u.1.spare; loaded = u.1.loaded }))
          (λ j. (sym e.0 j, sym e.1 j)) (x, there, (λ j. record x { bytes = new; changes = x.changes ++ sym change_is j })));
      paths = λ u q a. within.paths u q a ∙ ap (λ (z : PosixTree). z.paths) (sym goes_is);
      next = λ u q a. within.next u q a ∙ ap (λ (z : PosixTree). z.next) (sym goes_is);
      holds = λ u q a c h. within.holds u q a c h ∙ ap (λ (z : PosixTree). Rattle.ufs_model.specs.Touched.holds z.fds c h) (sym goes_is);
      names = λ u q a. (q, a, (λ j. record q { changes = sym (append-nil q.changes) j }), (λ h bs z. z), (λ b z. z));
      own = λ h o. own_at h (ℕ_discrete h g) o ∙ ap (λ (z : PosixTree). one (is_some (fin.get z.bytes h))) (sym goes_is);
      other = λ h z a. let b : count eqb h v.files ≡ count eqb h ((g, x) ∷ []) = ap (count eqb h) held in omega arith;
      single = λ h. let b : one (eqb h g) ≤ 1 = few (eqb h g) in omega arith;
      leases = λ z listed live told. subst (λ (u : PosixTree). IsTrueOf u z.part z.fact) (sym goes_is) (leased z z.part listed live told);
      own_leases = λ z a live kept. subst (λ (u : PosixTree). Rattle.ufs_hand_laws.specs.LeasesTrue.IsLeaseHeld u.fds client (Rattle.ufs_hand_laws.specs.LeasesTrue.leased_file z.part z.fact)) (sym goes_is) kept;
      synced = λ done. cc;
      synced_names = λ done. cc;
      synced_birth = λ done. cc;
    }
      where
        few : (b : Bool) → one b ≤ 1
        few true = omega arith
        few false = omega arith

  pub write_may_draw : MayDraw writing v leaves []
  write_may_draw = record {
    self = self;
    client = has;
    low = low;
    seq = next;
    asked = asked;
    on = λ t is within known. draws t within;
    copies = λ z none. absurd none;
    names = λ u. refl;
    others = λ n ne. refl;
    blocks = λ b. let f : weigh (file_uses b) v.files ≡ weigh (file_uses b) ((g, x) ∷ []) = ap (weigh (file_uses b)) held in omega arith;
    dropped = λ h p a z. let e = mine h p a in let c : one (eqb h g) ≡ 1 = ap one (eq-eqb h g e.0) in absurd (omega arith);
    kept = λ h p q a b c o. let e = mine h p a in let f = left h q b in
        subst (λ (z : FilePart). Has c z.blocks ⊎ Has c z.quarantine) (sym f.1) (subst (λ (z : FilePart). Has c z.blocks ⊎ Has c z.quarantine) e.1 o);
    loaded = λ h p q a b place c got out. let e = (mine h p a).1 in let f = (left h q b).1 in
        let got' : slice_get x.blocks place ≡ Some c = ap (λ (z : FilePart). slice_get z.blocks place) (sym f) ∙ got in
        let out' : is_loaded x place ≡ false = ap (λ z. is_loaded z place) (sym f) ∙ out in (
          ap (λ (z : FilePart). slice_get z.blocks place) e ∙ got',
          ap (λ z. is_loaded z place) e ∙ out',
          ap (λ (z : FilePart). block_in z.bytes place) f ∙ in_memory place c got' out' ∙ ap (λ (z : FilePart). block_in z.bytes place) (sym e),
        );
    device = λ n e. cc;
    stopped = λ n e. cc;
    short = λ a b e. cc;
  }
