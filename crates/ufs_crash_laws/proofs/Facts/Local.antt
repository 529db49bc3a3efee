-- Changes are told by the parts that a request touches.
use Rattle.std.proofs.Common.{◌≡◌, ℕ, inl, inr, Bool, true, false, cond, eqb, ◌&&◌, List, [], ◌∷◌, Option, Some, None, is_some, is_none, unwrap_or, ap, sym, refl, ◌∙◌, subst}
use Rattle.std.specs.FinMap as map
use Rattle.std.proofs.lemmas.Bool.{eqb-true}
use Rattle.ufs_model.specs.PosixTree.{PosixTree, IsTree, is_number}
use Rattle.ufs_model.specs.Walk.{node_at, file_of}
use Rattle.ufs_model.specs.Descriptors.{opened, closed}
use Rattle.ufs_model.specs.FileBytes.{content, place_of}
use Rattle.ufs_model.specs.Refusals.{own_refusal, refusal}
use Rattle.ufs_model.specs.Posix.{file_bytes}
use Rattle.ufs_model.specs.Touched.{IsPartOf, file_part, opened_part, reached, touched_parts}
use Rattle.ufs_model.specs.Laws.{AgreeOn, Locality}
use Rattle.ufs_model.specs.History.{IsReplyTo, goes_on}
use Rattle.ufs_model.proofs.Facts.Allowed.{first_none}
use Rattle.ufs_model.specs.declared.data.Desc.{Desc}
use Rattle.ufs_model.specs.declared.data.Entry.{Entry}
use Rattle.ufs_model.specs.declared.data.Errno.{Errno}
use Rattle.ufs_model.specs.declared.data.Node.{Node}
use Rattle.ufs_model.specs.declared.data.Node.TheVariants.{Dir, File}
use Rattle.ufs_model.specs.declared.data.Op.{Op}
use Rattle.ufs_model.specs.declared.data.Op.TheVariants as op
use Rattle.ufs_model.specs.declared.data.PartName.{PartName}
use Rattle.ufs_model.specs.declared.data.PartName.TheVariants as part
use Rattle.ufs_crash_laws.specs.Steps.{is_served}
use Rattle.ufs_crash_laws.specs.Changes.{NameState, names_of, file_changed, written_at, change_asked, change_of, changes_names, names_by}
use Rattle.ufs_crash_laws.proofs.Facts.Entries.{IsDone, Left, Went, done, with_served}
use Rattle.ufs_crash_laws.specs.declared.data.FileChange.{FileChange}
use Rattle.ufs_crash_laws.specs.declared.data.FileChange.TheVariants as change'

-- a served request isn't refused
pub not_refused : (t : PosixTree) (entry : Entry) → IsReplyTo t entry → is_served entry.reply ≡ true → refusal t entry.client entry.op ≡ None
not_refused t entry legal is = by (done t entry legal)
  where
    by : IsDone t entry → refusal t entry.client entry.op ≡ None
    by (Left stays not) = cc
    by (Went passed goes _) = passed

-- a request that isn't refused touches all that it reaches
touches : (t : PosixTree) (client : ℕ) (request : Op) → refusal t client request ≡ None → (p : PartName) → IsPartOf (part.Client client ∷ reached t client request) p → IsPartOf (touched_parts t client request) p
touches t client request passed p at = subst (λ (o : Option Errno). IsPartOf (part.Client client ∷ cond (is_some o) [] (reached t client request)) p) (sym (first_none (own_refusal t client request) _ passed).0) at

-- and an `open` the file that it cuts
cuts : (t : PosixTree) (client : ℕ) (path : List ℕ) (read write creat excl trunc append : Bool) → refusal t client (op.OpenFile path read write creat excl trunc append) ≡ None → (p : PartName)
    → IsPartOf (opened_part t.next (is_some (node_at t.paths path)) (file_of (node_at t.paths path)) trunc) p → IsPartOf (touched_parts t client (op.OpenFile path read write creat excl trunc append)) p
cuts t client path read write creat excl trunc append passed p at =
    touches t client (op.OpenFile path read write creat excl trunc append) passed p
    (inr (inr (subst (λ (o : Option Errno). IsPartOf (cond (is_some o) [] (opened_part t.next (is_some (node_at t.paths path)) (file_of (node_at t.paths path)) trunc)) p) (sym passed) at)))

-- ---- a file that isn't touched has no change

no_file : (f : ℕ) (o : Option ℕ) (changes : List FileChange) → (IsPartOf (file_part o) (part.File f) → ⊥) → cond (is_number f o) changes [] ≡ []
no_file f None changes not = refl
no_file f (Some g) changes not = by (eqb g f) refl
  where
    by : (b : Bool) → eqb g f ≡ b → cond b changes [] ≡ []
    by true e = absurd (not (inl (ap part.File (sym (eqb-true g f e)))))
    by false e = refl

no_cut : (f next : ℕ) (o : Option Node) (trunc : Bool) → (IsPartOf (opened_part next (is_some o) (file_of o) trunc) (part.File f) → ⊥) → cond (is_number f (file_of o)) (cond trunc (change'.Resized 0 ∷ []) []) [] ≡ []
no_cut f next None trunc not = refl
no_cut f next (Some Dir) trunc not = refl
no_cut f next (Some (File g)) true not = no_file f (Some g) (change'.Resized 0 ∷ []) not
no_cut f next (Some (File g)) false not = elim (eqb g f) as (λ b. cond {A = List FileChange} b [] [] ≡ []) [ true ↦ refl | false ↦ refl ]

asked_none : (t : PosixTree) (client : ℕ) (request : Op) → refusal t client request ≡ None → (f : ℕ) → (IsPartOf (touched_parts t client request) (part.File f) → ⊥) → cond (is_number f (file_changed t client request)) (change_asked t client request) [] ≡ []
asked_none t client (op.OpenFile path read write creat excl trunc append) passed f not = no_cut f t.next (node_at t.paths path) trunc (λ at. not (cuts t client path read write creat excl trunc append passed (part.File f) at))
asked_none t client (op.Write fd data') passed f not = no_file f (opened t client fd).file _ (λ at. not (touches t client (op.Write fd data') passed (part.File f) (inr at)))
asked_none t client (op.Pwrite fd data' place) passed f not = no_file f (opened t client fd).file _ (λ at. not (touches t client (op.Pwrite fd data' place) passed (part.File f) (inr at)))
asked_none t client (op.Trunc fd size) passed f not = no_file f (opened t client fd).file _ (λ at. not (touches t client (op.Trunc fd size) passed (part.File f) (inr at)))
asked_none t client (op.Close fd) passed f not = refl
asked_none t client (op.Read fd n) passed f not = refl
asked_none t client (op.Pread fd n at) passed f not = refl
asked_none t client (op.Seek fd from by) passed f not = refl
asked_none t client (op.Fsync fd) passed f not = refl
asked_none t client op.Sync passed f not = refl
asked_none t client (op.Mkdir path) passed f not = refl
asked_none t client (op.Rmdir path) passed f not = refl
asked_none t client (op.Unlink path) passed f not = refl
asked_none t client (op.Rename from to) passed f not = refl
asked_none t client (op.Stat path) passed f not = refl
asked_none t client (op.List path) passed f not = refl

pub file_untouched : (t : PosixTree) (entry : Entry) → IsReplyTo t entry → (f : ℕ) → (IsPartOf (touched_parts t entry.client entry.op) (part.File f) → ⊥) → change_of f (record { before = t; entry = entry }) ≡ []
file_untouched t entry legal f not = by (is_served entry.reply) refl
  where
    by : (b : Bool) → is_served entry.reply ≡ b → cond (b && is_number f (file_changed t entry.client entry.op)) (change_asked t entry.client entry.op) [] ≡ []
    by true is = asked_none t entry.client entry.op (not_refused t entry legal is) f not
    by false is = refl

-- ---- two trees that agree on what is touched tell the same changes

content_same : (t u : PosixTree) (o : Option ℕ) → ((f : ℕ) → IsPartOf (file_part o) (part.File f) → map.get t.bytes f ≡ map.get u.bytes f) → content t.bytes o ≡ content u.bytes o
content_same t u None same = refl
content_same t u (Some f) same = ap (λ o. unwrap_or o []) (same f (inl refl))

module _ (t u : PosixTree) (client : ℕ) where
  abbrev Told : Op → Type 0
  Told request = ◌≡◌ {A = Option ℕ × List FileChange} (file_changed t client request, change_asked t client request) (file_changed u client request, change_asked u client request)

  module _ (request : Op) (agree : AgreeOn (touched_parts t client request) t u) where
    same_opened : (fd : ℕ) → opened t client fd ≡ opened u client fd
    same_opened fd = ap (λ (o : Option Desc). unwrap_or o closed) (agree (part.Client client) (inl refl) fd)

    same_content : (fd : ℕ) → ((p : PartName) → IsPartOf (file_part (opened t client fd).file) p → IsPartOf (touched_parts t client request) p) → file_bytes t client fd ≡ file_bytes u client fd
    same_content fd among =
        content_same t u (opened t client fd).file (λ f at. agree (part.File f) (among (part.File f) at))
        ∙ ap (λ (d : Desc). content u.bytes d.file) (same_opened fd)

  told_alike : (request : Op) → refusal t client request ≡ None → AgreeOn (touched_parts t client request) t u → Told request
  told_alike (op.OpenFile path read write creat excl trunc append) passed agree =
      let names = agree part.Names (touches t client (op.OpenFile path read write creat excl trunc append) passed part.Names (inr (inl refl))) in
      λ i. (file_of (node_at (names.0 i) path), cond trunc (change'.Resized 0 ∷ []) [])
  told_alike (op.Write fd data') passed agree =
      let bytes = same_content (op.Write fd data') agree fd (λ p at. touches t client (op.Write fd data') passed p (inr at)) in
      λ i. ((same_opened (op.Write fd data') agree fd i).file, written_at (place_of (same_opened (op.Write fd data') agree fd i) (bytes i)) data')
  told_alike (op.Pwrite fd data' place) passed agree = λ i. ((same_opened (op.Pwrite fd data' place) agree fd i).file, written_at place data')
  told_alike (op.Trunc fd size) passed agree = λ i. ((same_opened (op.Trunc fd size) agree fd i).file, change'.Resized size ∷ [])
  told_alike (op.Close fd) passed agree = refl
  told_alike (op.Read fd n) passed agree = refl
  told_alike (op.Pread fd n at) passed agree = refl
  told_alike (op.Seek fd from by) passed agree = refl
  told_alike (op.Fsync fd) passed agree = refl
  told_alike op.Sync passed agree = refl
  told_alike (op.Mkdir path) passed agree = refl
  told_alike (op.Rmdir path) passed agree = refl
  told_alike (op.Unlink path) passed agree = refl
  told_alike (op.Rename from to) passed agree = refl
  told_alike (op.Stat path) passed agree = refl
  told_alike (op.List path) passed agree = refl

pub file_alike : (t u : PosixTree) (entry : Entry) → IsReplyTo t entry → AgreeOn (touched_parts t entry.client entry.op) t u → (f : ℕ)
    → change_of f (record { before = t; entry = entry }) ≡ change_of f (record { before = u; entry = entry })
file_alike t u entry legal agree f = by (is_served entry.reply) refl
  where
    by : (b : Bool) → is_served entry.reply ≡ b → cond (b && is_number f (file_changed t entry.client entry.op)) (change_asked t entry.client entry.op) [] ≡ cond (b && is_number f (file_changed u entry.client entry.op)) (change_asked u entry.client entry.op) []
    by true is = ap (λ (x : Option ℕ × List FileChange). cond (is_number f x.0) x.1 []) (told_alike t u entry.client entry.op (not_refused t entry legal is) agree)
    by false is = refl

-- ---- names

-- a request that changes names touches them
names_touched : (t : PosixTree) (client : ℕ) (request : Op) → refusal t client request ≡ None → changes_names t request ≡ true → IsPartOf (touched_parts t client request) part.Names
names_touched t client (op.OpenFile path read write creat excl trunc append) passed e = touches t client (op.OpenFile path read write creat excl trunc append) passed part.Names (inr (inl refl))
names_touched t client (op.Mkdir path) passed e = touches t client (op.Mkdir path) passed part.Names (inr (inl refl))
names_touched t client (op.Rmdir path) passed e = touches t client (op.Rmdir path) passed part.Names (inr (inl refl))
names_touched t client (op.Unlink path) passed e = touches t client (op.Unlink path) passed part.Names (inr (inl refl))
names_touched t client (op.Rename from to) passed e = touches t client (op.Rename from to) passed part.Names (inr (inl refl))
names_touched t client (op.Close fd) passed e = cc
names_touched t client (op.Read fd n) passed e = cc
names_touched t client (op.Write fd data') passed e = cc
names_touched t client (op.Pread fd n at) passed e = cc
names_touched t client (op.Pwrite fd data' at) passed e = cc
names_touched t client (op.Seek fd from by) passed e = cc
names_touched t client (op.Trunc fd size) passed e = cc
names_touched t client (op.Fsync fd) passed e = cc
names_touched t client op.Sync passed e = cc
names_touched t client (op.Stat path) passed e = cc
names_touched t client (op.List path) passed e = cc

pub names_untouched : (t : PosixTree) (entry : Entry) → IsReplyTo t entry → (IsPartOf (touched_parts t entry.client entry.op) part.Names → ⊥) → names_by (record { before = t; entry = entry }) ≡ []
names_untouched t entry legal not = by (is_served entry.reply) refl (changes_names t entry.op) refl
  where
    by : (a : Bool) → is_served entry.reply ≡ a → (b : Bool) → changes_names t entry.op ≡ b → cond (a && b) (names_of (goes_on t entry) ∷ []) [] ≡ []
    by false is b e = refl
    by true is true e = absurd (not (names_touched t entry.client entry.op (not_refused t entry legal is) e))
    by true is false e = refl

names_told : (t u : PosixTree) (client : ℕ) (request : Op) → refusal t client request ≡ None → AgreeOn (touched_parts t client request) t u → changes_names t request ≡ changes_names u request
names_told t u client (op.OpenFile path read write creat excl trunc append) passed agree =
    ap (λ paths. is_none (node_at paths path)) (agree part.Names (touches t client (op.OpenFile path read write creat excl trunc append) passed part.Names (inr (inl refl)))).0
names_told t u client (op.Mkdir path) passed agree = refl
names_told t u client (op.Rmdir path) passed agree = refl
names_told t u client (op.Unlink path) passed agree = refl
names_told t u client (op.Rename from to) passed agree = refl
names_told t u client (op.Close fd) passed agree = refl
names_told t u client (op.Read fd n) passed agree = refl
names_told t u client (op.Write fd data') passed agree = refl
names_told t u client (op.Pread fd n at) passed agree = refl
names_told t u client (op.Pwrite fd data' at) passed agree = refl
names_told t u client (op.Seek fd from by) passed agree = refl
names_told t u client (op.Trunc fd size) passed agree = refl
names_told t u client (op.Fsync fd) passed agree = refl
names_told t u client op.Sync passed agree = refl
names_told t u client (op.Stat path) passed agree = refl
names_told t u client (op.List path) passed agree = refl

-- That a request is local is taken as given.
pub names_alike : Locality → (t u : PosixTree) → IsTree t → IsTree u → (entry : Entry) → IsReplyTo t entry → AgreeOn (touched_parts t entry.client entry.op) t u
    → names_by (record { before = t; entry = entry }) ≡ names_by (record { before = u; entry = entry })
names_alike local t u is is' entry legal agree = by (is_served entry.reply) refl (changes_names t entry.op) refl
  where
    same : is_served entry.reply ≡ true → changes_names t entry.op ≡ true → names_of (goes_on t entry) ≡ names_of (goes_on u entry)
    same served changes =
        let passed = not_refused t entry legal served in
        let parts = (local t u entry.client entry.op is is' agree).touched part.Names (names_touched t entry.client entry.op passed changes) in
        ap names_of (with_served t entry.client entry.op entry.reply served)
        ∙ (λ i. record { paths = parts.0 i; next = parts.1 i })
        ∙ sym (ap names_of (with_served u entry.client entry.op entry.reply served))

    told : is_served entry.reply ≡ true → changes_names t entry.op ≡ changes_names u entry.op
    told served = names_told t u entry.client entry.op (not_refused t entry legal served) agree

    by : (a : Bool) → is_served entry.reply ≡ a → (b : Bool) → changes_names t entry.op ≡ b
        → cond (a && changes_names t entry.op) (names_of (goes_on t entry) ∷ []) [] ≡ cond (a && changes_names u entry.op) (names_of (goes_on u entry) ∷ []) []
    by false served b e = refl
    by true served true e =
        ap (λ b. cond b (names_of (goes_on t entry) ∷ []) []) e ∙ ap (λ (n : NameState). n ∷ []) (same served e)
        ∙ sym (ap (λ b. cond b (names_of (goes_on u entry) ∷ []) []) (sym (told served) ∙ e))
    by true served false e =
        ap (λ b. cond b (names_of (goes_on t entry) ∷ []) []) e
        ∙ sym (ap (λ b. cond b (names_of (goes_on u entry) ∷ []) []) (sym (told served) ∙ e))
