-- The condition of a draw is met by an `open` of a file that is there, by a client with no descriptor.
use Rattle.std.proofs.Common.{◌≡◌, ℕ, ◌<◌, ◌≤◌, ◌⊎◌, Bool, true, false, cond, eqb, List, [], ◌∷◌, ◌++◌, length, Some, None, is_some, is_none, not, ◌||◌, ◌&&◌, unwrap_or, sym, refl, ap, ◌∙◌, subst, inl, inr, ⊎_elim, arith, append-nil}
use Rattle.std.proofs.lemmas.Bool.{and_parts}
use Rattle.std.specs.Cmp.{nat_cmp_total, both_ways}
use Rattle.std.specs.FinMap as fin
use Rattle.std.specs.FinMap.{nat_cmp-IsAntisymmetric}
use native.Mathlib.Decide.{ℕ_discrete, dec_le}
use Rattle.ufs_base.specs.Choices.{first_of, refused_if}
use Rattle.ufs_model.specs.PosixTree.{PosixTree, Fds, desc_at, is_number}
use Rattle.ufs_model.specs.Paths.{text_refusal, whole_of}
use Rattle.ufs_model.specs.Walk.{walk_refusal, node_at, file_of}
use Rattle.ufs_model.specs.Posix.{served, open_node, with_fd}
use Rattle.ufs_model.specs.Refusals.{refusal, own_refusal, open_refusal}
use Rattle.ufs_model.specs.Descriptors.{Mode, mode_of_open, is_mode, free_from, lowest_free}
use Rattle.ufs_model.specs.History.{goes_on}
use Rattle.ufs_model.specs.Touched.{holds, IsPartOf, opened_part}
use Rattle.ufs_model.proofs.Facts.Lookups.{inserted_here, inserted_else}
use Rattle.ufs_model.proofs.Facts.Held.{holder, held}
use Rattle.ufs_model.proofs.Facts.Orders.{fd_total, fd_same}
use Rattle.ufs_model.specs.declared.data.Desc.{Desc}
use Rattle.ufs_model.specs.declared.data.Errno.TheVariants as errno
use Rattle.ufs_model.specs.declared.data.Lease.{Lease}
use Rattle.ufs_model.specs.declared.data.Node.TheVariants.{File}
use Rattle.ufs_model.specs.declared.data.Op.{Op}
use Rattle.ufs_model.specs.declared.data.Op.TheVariants as op
use Rattle.ufs_model.specs.declared.data.Actor.{Actor}
use Rattle.ufs_model.specs.declared.data.Reply.TheVariants as reply
use Rattle.ufs_model.specs.declared.data.PartName.{PartName}
use Rattle.ufs_model.specs.declared.data.PartName.TheVariants as name
use Rattle.ufs_crash_laws.specs.Changes.{NameState, change_of, names_by, names_of}
use Rattle.ufs_hand_laws.specs.declared.fresh.Fresh.{Fresh}
use Rattle.ufs_hand_laws.specs.Owned.{one, Has, count}
use Rattle.ufs_hand_laws.specs.Covers.{step_in}
use Rattle.ufs_hand_laws.specs.LeasesTrue.{IsListedIn}
use Rattle.ufs_hand_laws.specs.Marks.{IsSingle}
use Rattle.ufs_hand_laws.specs.Parts.{ClientPart, FilePart, NamesPart, View, HoldsPart, is_holder, only_one, uses}
use Rattle.ufs_hand_laws.specs.Draws.{Leaves, entry_of, drawn, IsIn, IsAbsent, IsUnchanged, DrawsOn, MayDraw}
use Rattle.ufs_hand_laws.proofs.Owning.{count_has, has_count, has_find, same_some}
use Rattle.ufs_hand_laws.proofs.Keys.{itself, alike}

-- a client with no descriptor opens the first one
first_free : (fds : Fds) (client : ℕ) → fin.get fds (client, 3) ≡ None → lowest_free fds client ≡ Some 3
unfolding lowest_free
first_free fds client e = ap (λ o. cond (is_some o) (free_from fds client 4 63) (Some 3)) e

either : (a b : Bool) → (a || b) ≡ true → (a ≡ true) ⊎ (b ≡ true)
either true b e = inl refl
either false b e = inr e

or_right : (a b : Bool) → b ≡ true → (a || b) ≡ true
or_right true b e = refl
or_right false b e = e

none_some' : {A : Type 0} (x : A) → None ≡ Some x → ⊥
none_some' x e = cc

no_list : {A : Type 0} (b : Bool) → cond {A = List A} b [] [] ≡ []
no_list true = refl
no_list false = refl

abbrev pub plain : Mode
plain = mode_of_open true true false false false false

module _ (client seq g : ℕ) (path : List ℕ) (by : Actor) (v : View) (single : IsSingle v) (self : ClientPart) (has : Has (client, self) v.clients) (low : client < 16) (next : seq ≡ length self.entries)
    (asked : self.asked ≡ Some (op.OpenFile path true true false false false false)) (closed : (fd : ℕ) → fin.get self.fds fd ≡ None) (p : NamesPart) (names : v.names ≡ (tt, p) ∷ [])
    (text : text_refusal path ≡ None) (walk : walk_refusal p.paths path ≡ None) (node : node_at p.paths path ≡ Some (File g))
    (free : (z : Lease) (q : PartName) → IsListedIn v z q → ⊥) (no_copies : self.copies ≡ []) where
  abbrev asks : Op
  asks = op.OpenFile path true true false false false false

  abbrev pub opening : Fresh
  opening = record { client = client; seq = seq; by = by; op = asks; reply = reply.Fd 3 }

  abbrev pub desc : Desc
  desc = record { file = Some g; at = 0; read = true; write = true; append = false }

  abbrev pub names_then : NamesPart
  names_then = record p { holds = (client, g) ∷ p.holds }

  abbrev pub leaves : Leaves
  leaves = record { fds = fin.insert self.fds 3 desc; files = v.files; names = (tt, names_then) ∷ [] }

  there : Has (tt, p) v.names
  there = subst (Has {A = Unit {0} × NamesPart} (tt, p)) (sym names) (inl refl)

  named : (u : Unit {0}) (q : NamesPart) → Has (u, q) leaves.names → q ≡ names_then
  named u q h = ⊎_elim (λ (e : (u, q) ≡ (tt, names_then)). ap (λ (z : Unit {0} × NamesPart). z.1) e) (λ e. absurd e) h

  module _ (t : PosixTree) (within : IsIn v t) where
    abbrev after : PosixTree
    after = record t { fds = fin.insert t.fds (client, 3) desc }

    node_is : node_at t.paths path ≡ Some (File g)
    node_is = ap (λ ps. node_at ps path) (sym (within.paths tt p there)) ∙ node

    walk_is : walk_refusal t.paths path ≡ None
    walk_is = ap (λ ps. walk_refusal ps path) (sym (within.paths tt p there)) ∙ walk

    none_open : (fd : ℕ) → fin.get t.fds (client, fd) ≡ None
    none_open fd = sym (within.clients client self has fd) ∙ closed fd

    lowest : lowest_free t.fds client ≡ Some 3
    lowest = first_free t.fds client (none_open 3)

    allowed : refusal t client asks ≡ None
    allowed = λ j. first_of (first_of (refused_if (not (is_mode plain)) errno.Einval) (first_of (refused_if (is_none (lowest j)) errno.Emfile) (text j))) (first_of (walk_is j) (open_refusal plain (node_is j)))

    goes_is : goes_on t (entry_of 0 opening) ≡ after
    goes_is =
        ap (λ o. (served t client asks o).0) allowed
        ∙ ap (open_node t client (whole_of path) plain) node_is
        ∙ ap (λ o. with_fd t client (unwrap_or o 0) desc) lowest

    replied : reply.Fd 3 ≡ (served t client asks (refusal t client asks)).1
    replied = ap (λ o. reply.Fd (unwrap_or o 0)) (sym lowest) ∙ sym (ap (λ o. (served t client asks o).1) allowed)

    no_change : (h : ℕ) → change_of h (step_in t (entry_of 0 opening)) ≡ []
    no_change h = no_list (is_number h (file_of (node_at t.paths path)))

    no_names : names_by (step_in t (entry_of 0 opening)) ≡ []
    no_names = ap (λ o. cond {A = List NameState} (is_none o) (names_of (goes_on t (entry_of 0 opening)) ∷ []) []) node_is

    -- ---- descriptors

    fds_then : (fd : ℕ) → fin.get leaves.fds fd ≡ desc_at after client fd
    fds_then fd = at (ℕ_discrete fd 3)
      where
        at : Dec (fd ≡ 3) → fin.get leaves.fds fd ≡ desc_at after client fd
        at (yes s) = ap (fin.get leaves.fds) s ∙ inserted_here nat_cmp_total nat_cmp-IsAntisymmetric self.fds 3 desc ∙ sym (inserted_here fd_total fd_same t.fds (client, 3) desc) ∙ ap (λ n. desc_at after client n) (sym s)
        at (no s) = inserted_else nat_cmp_total nat_cmp-IsAntisymmetric self.fds 3 desc fd s ∙ within.clients client self has fd ∙ sym (inserted_else fd_total fd_same t.fds (client, 3) desc (client, fd) (λ (e : (client, fd) ≡ (client, 3)). s (ap (λ (q : ℕ × ℕ). q.1) e)))

    to_tree : (c h : ℕ) → is_holder names_then.holds c h ≡ true → holds after.fds c h ≡ true
    to_tree c h e = ⊎_elim new old (either (eqb client c && eqb g h) (is_holder p.holds c h) e)
      where
        new : (eqb client c && eqb g h) ≡ true → holds after.fds c h ≡ true
        new b = let parts = and_parts (eqb client c) (eqb g h) b in
            subst (λ (q : ℕ × ℕ). holds after.fds q.0 q.1 ≡ true) (λ j. (alike client c parts.0 j, alike g h parts.1 j)) (held after.fds client g 3 desc (inserted_here fd_total fd_same t.fds (client, 3) desc) (itself g))

        old : is_holder p.holds c h ≡ true → holds after.fds c h ≡ true
        old b = let w = holder t.fds c h (sym (within.holds tt p there c h) ∙ b) in at (ℕ_discrete c client) w.0 w.1 w.2 w.3
          where
            at : Dec (c ≡ client) → (fd : ℕ) (d : Desc) → fin.get t.fds (c, fd) ≡ Some d → is_number h d.file ≡ true → holds after.fds c h ≡ true
            at (yes s) fd d got of = absurd (none_some' d (sym (none_open fd) ∙ ap (λ n. fin.get t.fds (n, fd)) (sym s) ∙ got))
            at (no s) fd d got of = held after.fds c h fd d (inserted_else fd_total fd_same t.fds (client, 3) desc (c, fd) (λ (e : (c, fd) ≡ (client, 3)). s (ap (λ (q : ℕ × ℕ). q.0) e)) ∙ got) of

    from_tree : (c h : ℕ) → holds after.fds c h ≡ true → is_holder names_then.holds c h ≡ true
    from_tree c h e = let w = holder after.fds c h e in at (ℕ_discrete c client) (ℕ_discrete w.0 3) w.0 w.1 w.2 w.3 (λ s. s) (λ s. s)
      where
        at : Dec (c ≡ client) → {n : ℕ} → Dec (n ≡ 3) → (fd : ℕ) (d : Desc) → fin.get after.fds (c, fd) ≡ Some d → is_number h d.file ≡ true → (fd ≡ 3 → n ≡ 3) → (n ≡ 3 → fd ≡ 3) → is_holder names_then.holds c h ≡ true
        at (yes s) (yes z) fd d got of to back =
            let d_is : desc ≡ d = same_some desc d (sym (inserted_here fd_total fd_same t.fds (client, 3) desc) ∙ (λ j. fin.get after.fds (sym s j, sym (back z) j)) ∙ got) in
            let g_is : eqb g h ≡ true = ap (λ (q : Desc). is_number h q.file) d_is ∙ of in
            (λ j. (eqb client (s j) && g_is j) || is_holder p.holds c h) ∙ ap (λ b. (b && true) || is_holder p.holds c h) (itself client)
        at (yes s) (no z) fd d got of to back =
            absurd (none_some' d (sym (none_open fd) ∙ sym (inserted_else fd_total fd_same t.fds (client, 3) desc (client, fd) (λ (e : (client, fd) ≡ (client, 3)). z (to (ap (λ (q : ℕ × ℕ). q.1) e)))) ∙ ap (λ n. fin.get after.fds (n, fd)) (sym s) ∙ got))
        at (no s) z fd d got of to back =
            or_right (eqb client c && eqb g h) (is_holder p.holds c h)
            (within.holds tt p there c h ∙ held t.fds c h fd d (sym (inserted_else fd_total fd_same t.fds (client, 3) desc (c, fd) (λ (e : (c, fd) ≡ (client, 3)). s (ap (λ (q : ℕ × ℕ). q.0) e))) ∙ got) of)

    holds_then : (c h : ℕ) → is_holder names_then.holds c h ≡ holds after.fds c h
    holds_then c h = both_ways (is_holder names_then.holds c h) (holds after.fds c h) (to_tree c h) (from_tree c h)

    touches : (b c : Bool) → (q : PartName) → IsPartOf (name.Client client ∷ cond b [] (name.Names ∷ cond c [] (opened_part t.next (is_some (node_at t.paths path)) (file_of (node_at t.paths path)) false))) q → HoldsPart q v ⊎ (IsAbsent q t ⊎ IsUnchanged q t (entry_of 0 opening))
    touches b c q (inl e) = inl (subst (λ y. HoldsPart y v) (sym e) (count_has eqb itself alike client self v.clients has))
    touches true c q (inr e) = absurd e
    touches false c q (inr (inl e)) = inl (subst (λ y. HoldsPart y v) (sym e) (subst (λ ps. 1 ≤ count only_one tt ps) (sym names) (omega arith)))
    touches false true q (inr (inr e)) = absurd e
    touches false false q (inr (inr e)) = absurd (subst (λ o. IsPartOf (opened_part t.next (is_some o) (file_of o) false) q) node_is e)

    own_at : (h : ℕ) → (1 ≤ count eqb h v.files) ⊎ (fin.get t.bytes h ≡ None) → Dec (1 ≤ count eqb h v.files) → count eqb h v.files ≡ one (is_some (fin.get t.bytes h))
    own_at h o (yes c) =
        let x = has_count eqb itself alike h v.files c in let s = single.files h in
        let e : one (is_some (fin.get t.bytes h)) ≡ 1 = ap (λ y. one (is_some y)) (within.files h x.0 x.1) in omega arith
    own_at h (inl c) (no n) = absurd (n c)
    own_at h (inr e) (no n) = let z : one (is_some (fin.get t.bytes h)) ≡ 0 = ap (λ y. one (is_some y)) e in omega arith

    draws : DrawsOn opening self v leaves t
    draws = record {
      replied = inl replied;
      touched = λ _. touches (is_some (own_refusal t client asks)) (is_some (refusal t client asks));
      fds = λ fd. fds_then fd ∙ ap (λ (u : PosixTree). desc_at u client fd) (sym goes_is);
      bytes = λ h x a. ap (λ (u : PosixTree). fin.get u.bytes h) goes_is ∙ within.files h x a;
      files = λ h x a. inl (x, a, λ j. record x { changes = (sym (append-nil x.changes) ∙ ap (λ c. x.changes ++ c) (sym (no_change h))) j });
      paths = λ u q a. ap (λ (z : NamesPart). z.paths) (named u q a) ∙ within.paths tt p there ∙ ap (λ (z : PosixTree). z.paths) (sym goes_is);
      next = λ u q a. ap (λ (z : NamesPart). z.next) (named u q a) ∙ within.next tt p there ∙ ap (λ (z : PosixTree). z.next) (sym goes_is);
      holds = λ u q a c h. ap (λ (z : NamesPart). is_holder z.holds c h) (named u q a) ∙ holds_then c h ∙ ap (λ (z : PosixTree). holds z.fds c h) (sym goes_is);
      names = λ u q a. subst (λ (z : NamesPart). Rattle.ufs_hand_laws.specs.Draws.IsNamesAfter t (entry_of 0 opening) v u z) (sym (named u q a))
          (p, there, (λ j. record names_then { changes = (sym (append-nil p.changes) ∙ ap (λ c. p.changes ++ c) (sym no_names)) j }), (λ h bs z. z), (λ b z. z));
      own = λ h o. own_at h o (dec_le 1 (count eqb h v.files)) ∙ ap (λ (z : PosixTree). one (is_some (fin.get z.bytes h))) (sym goes_is);
      other = λ h z a. z;
      single = single.files;
      leases = λ z listed live told. absurd (free z z.part listed);
      own_leases = λ z a live kept. absurd (subst (Has z) no_copies a);
      synced = λ done. cc;
      synced_names = λ done. cc;
      synced_birth = λ done. cc;
    }

  same_file : (h : ℕ) (x y : FilePart) → Has (h, x) v.files → Has (h, y) v.files → x ≡ y
  same_file h x y a b = same_some x y (sym (has_find eqb itself alike h x v.files (single.files h) a) ∙ has_find eqb itself alike h y v.files (single.files h) b)

  pub open_may_draw : MayDraw opening v leaves []
  open_may_draw = record {
    self = self;
    client = has;
    low = low;
    seq = next;
    asked = asked;
    on = λ t is within known. draws t within;
    copies = λ z none. absurd none;
    names = λ u. ap (count only_one u) (sym names);
    others = λ n ne. inserted_else nat_cmp_total nat_cmp-IsAntisymmetric self.fds 3 desc n (λ e. ne (ap Some (sym e)));
    blocks = λ b. ap (λ l. uses b (record (drawn 0 opening leaves v) { names = l })) (λ j. (tt, p) ∷ []) ∙ ap (λ l. uses b (record v { names = l })) (sym names);
    dropped = λ h x a z. let c = count_has eqb itself alike h x v.files a in absurd (omega arith);
    kept = λ h x y a b c o. subst (λ (z : FilePart). Has c z.blocks ⊎ Has c z.quarantine) (same_file h x y a b) o;
    loaded = λ h x y a b place c got out. let e = same_file h x y a b in (ap (λ (z : FilePart). Rattle.std.specs.Prelude.slice_get z.blocks place) e ∙ got, ap (λ z. Rattle.ufs_hand_laws.specs.DiskBytes.is_loaded z place) e ∙ out, ap (λ (z : FilePart). Rattle.ufs_hand_laws.specs.DiskBytes.block_in z.bytes place) (sym e));
    device = λ n e. cc;
    stopped = λ n e. cc;
    short = λ a b e. cc;
  }
