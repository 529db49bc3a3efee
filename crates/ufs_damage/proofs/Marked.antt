-- Marks and those who hold.
use Rattle.std.proofs.Common.{◌≡◌, ◌≢◌, ℕ, zero, suc, ◌+◌, ◌<◌, ◌≤◌, List, [], ◌∷◌, ◌++◌, Bool, true, false, cond, Option, Some, None, length, take, get_or, set, map, ap, sym, refl, ◌∙◌, arith, append_assoc, inl, inr, length-append}
use Rattle.std.proofs.lemmas.List.{get_or-set_same, get_or-set_other}
use Rattle.std.proofs.Math.ListN.{length-set}
use Rattle.std.specs.Prelude.{filter, flat_map, ◌==◌, ◌&&◌, if◌then◌else◌, is_some, nat_lt}
use Rattle.std.specs.List.{slice_get, range_with_len, enumerate_from, filter_map, cons_option, list_any}
use Rattle.std.specs.Option.{option_to_list}
use Rattle.std.proofs.lemmas.Bool.{cases_eq, eq-eqb, ne_eqb}
use Rattle.std.proofs.lemmas.Option.{slice_get-get_or}
use Rattle.std.proofs.lemmas.List.{append-nil, map-append}
use Rattle.std.proofs.lemmas.List.Elements.{filter_map-append, filter-append}
use Rattle.std.proofs.lemmas.List.FromFn.{length-range_with_len}
use Rattle.std.proofs.lemmas.Bool.Decides.{nat_tests}
use Rattle.std.proofs.lemmas.Grind.{flat_map-append, take_at_read}
use Rattle.ufs_base.specs.Choices.{some_if}
use Rattle.ufs_layout.specs.DentryForm.{DentryForm, is_named}
use Rattle.ufs_layout.specs.InodeForm.{InodeForm}
use Rattle.ufs_layout.specs.declared.inode.Extent.{Extent}
use Rattle.ufs_layout.specs.declared.geometry.Geometry.{Geometry}
use Rattle.ufs_image.specs.Nodes.{Node, leaves_data, blocks_of, Dir, NamedSlot, names_of}
use Rattle.ufs_image.specs.Damage.{TwoNames, holders, shared_block, names_count, has_two_names}
use Rattle.ufs_damage.specs.declared.marks.Held.{Held}
use Rattle.ufs_damage.specs.Marks.{held_of, with_holder, AreMarks, one_more, times, all_more, shared_damage, naming, names_this, slots_naming, names_damage}
use Rattle.ufs_damage.specs.Told.{form_of, is_sound_form}
use Rattle.ufs_damage.specs.Kinds.{node_of, nodes_in, numbered}
use Rattle.ufs_damage.proofs.Lists.{range_more, take_more, numbered_more, filter_map_one, any_false_at}

pub with_held : (hs : List ℕ) (h : ℕ) → with_holder (held_of hs) h ≡ held_of (hs ++ h ∷ [])
with_held [] h = refl
with_held (a ∷ []) h = refl
with_held (a ∷ b ∷ hs) h = refl

pub same_marks : (marks : List Held) (f h : ℕ → List ℕ) → ((k : ℕ) → f k ≡ h k) → AreMarks marks f → AreMarks marks h
same_marks marks f h same are k less = are k less ∙ ap (λ hs. Some (held_of hs)) (same k)

-- the same where only the numbers that have marks count
pub same_below : (marks : List Held) (f h : ℕ → List ℕ) → ((k : ℕ) → k < length marks → f k ≡ h k) → AreMarks marks f → AreMarks marks h
same_below marks f h same are k less = are k less ∙ ap (λ hs. Some (held_of hs)) (same k less)

-- ---- one more

pub marked : (old : List Held) (at holder : ℕ) (v x : Held) (f : ℕ → List ℕ) → at < length old → v ≡ with_holder x holder → slice_get old at ≡ Some x → AreMarks old f → AreMarks (set old at v) (one_more f at holder)
marked old at holder v x f within is read are k less = elim (cases_eq at k) [
  | inl e ↦ same e
  | inr ne ↦ other ne
]
  where
    below : k < length old
    below = omega (arith, less, length-set old at v)

    value : v ≡ held_of (f at ++ holder ∷ [])
    value = is ∙ ap (λ (m : Held). with_holder m holder) (let e : Some x ≡ Some (held_of (f at)) = sym read ∙ are at within in cc) ∙ with_held (f at) holder

    same : at ≡ k → slice_get (set old at v) k ≡ Some (held_of (one_more f at holder k))
    same e =
        slice_get-get_or (set old at v) k v less ∙ ap Some (ap (λ n. get_or (set old at v) n v) (sym e) ∙ get_or-set_same old at v v within ∙ value)
        ∙ ap (λ n. Some (held_of (f n ++ holder ∷ []))) e ∙ ap (λ b. Some (held_of (f k ++ (if b then holder ∷ [] else [])))) (sym (eq-eqb at k e))

    other : at ≢ k → slice_get (set old at v) k ≡ Some (held_of (one_more f at holder k))
    other ne =
        slice_get-get_or (set old at v) k v less ∙ ap Some (get_or-set_other old at k v v (λ e. ne (sym e)))
        ∙ sym (slice_get-get_or old k v below) ∙ are k below ∙ ap (λ hs. Some (held_of hs)) (sym (append-nil (f k)))
        ∙ ap (λ b. Some (held_of (f k ++ (if b then holder ∷ [] else [])))) (sym (ne_eqb at k ne))

pub times_append : (h : ℕ) (xs ys : List ℕ) (k : ℕ) → times h (xs ++ ys) k ≡ times h xs k ++ times h ys k
times_append h xs ys k = ap (map (λ (n : ℕ). h)) (filter-append (λ n. n == k) xs ys) ∙ map-append (λ (n : ℕ). h) (filter (λ n. n == k) xs) (filter (λ n. n == k) ys)

times_one : (h n k : ℕ) → times h (n ∷ []) k ≡ (if n == k then h ∷ [] else [])
times_one h n k = by (n == k)
  where
    by : (b : Bool) → map (λ (m : ℕ). h) (cond b (n ∷ []) []) ≡ (if b then h ∷ [] else [])
    by true = refl
    by false = refl

pub one_behind : (f : ℕ → List ℕ) (h : ℕ) (xs : List ℕ) (n k : ℕ) → one_more (all_more f h xs) n h k ≡ all_more f h (xs ++ n ∷ []) k
one_behind f h xs n k =
    append_assoc (f k) (times h xs k) (if n == k then h ∷ [] else [])
    ∙ ap (λ l. f k ++ (times h xs k ++ l)) (sym (times_one h n k)) ∙ ap (λ l. f k ++ l) (sym (times_append h xs (n ∷ []) k))

pub all_behind : (f : ℕ → List ℕ) (h : ℕ) (xs ys : List ℕ) (k : ℕ) → all_more (all_more f h xs) h ys k ≡ all_more f h (xs ++ ys) k
all_behind f h xs ys k = append_assoc (f k) (times h xs k) (times h ys k) ∙ ap (λ l. f k ++ l) (sym (times_append h xs ys k))

-- one more of a range
pub run_more : (now next : List Held) (f : ℕ → List ℕ) (h a i m : ℕ) → m ≡ a + i → AreMarks now (all_more f h (range_with_len a i))
    → (AreMarks now (all_more f h (range_with_len a i)) → AreMarks next (one_more (all_more f h (range_with_len a i)) m h)) → AreMarks next (all_more f h (range_with_len a (i + 1)))
run_more now next f h a i m at are put =
    same_marks next (one_more (all_more f h (range_with_len a i)) m h) (all_more f h (range_with_len a (i + 1)))
    (λ k. one_behind f h (range_with_len a i) m k ∙ ap (λ l. all_more f h l k) (ap (λ (n : ℕ). range_with_len a i ++ n ∷ []) at ∙ sym (range_more a i))) (put are)

pub none_more : (marks : List Held) (f : ℕ → List ℕ) (h : ℕ) → AreMarks marks f → AreMarks marks (all_more f h [])
none_more marks f h are = same_marks marks f (all_more f h []) (λ k. sym (append-nil (f k))) are

-- ---- blocks

pub holders_append : (xs ys : List Node) (k : ℕ) → holders (xs ++ ys) k ≡ holders xs k ++ holders ys k
holders_append xs ys k = flat_map-append (λ (n : Node). map (λ b. n.0) (filter (λ b. b == k) (blocks_of n.1))) xs ys

pub holders_one : (inode : ℕ) (form : InodeForm) (k : ℕ) → holders ((inode, form) ∷ []) k ≡ times inode (blocks_of form) k
holders_one inode form k = append-nil (times inode (blocks_of form) k)

pub shared_is : (nodes : List Node) (block : ℕ) → shared_damage block (held_of (holders nodes block)) ≡ shared_block nodes block
shared_is nodes block = by (holders nodes block) refl
  where
    by : (hs : List ℕ) → holders nodes block ≡ hs → shared_damage block (held_of hs) ≡ shared_block nodes block
    by [] is = rw (is, shared_block) refl
    by (a ∷ []) is = rw (is, shared_block) refl
    by (a ∷ b ∷ hs) is = rw (is, shared_block) refl

-- ---- names

pub slots_append : (dir : ℕ) (xs ys : List (Option DentryForm)) (k : ℕ) → slots_naming dir (xs ++ ys) k ≡ slots_naming dir xs k ++ slots_naming dir ys k
slots_append dir xs ys k = ap (map (λ (s : Option DentryForm). dir)) (filter-append (names_this k) xs ys) ∙ map-append (λ (s : Option DentryForm). dir) (filter (names_this k) xs) (filter (names_this k) ys)

pub naming_append : (xs ys : List Dir) (k : ℕ) → naming (xs ++ ys) k ≡ naming xs k ++ naming ys k
naming_append xs ys k = flat_map-append (λ (d : Dir). map (λ (n : NamedSlot). d.inode) (filter (λ (n : NamedSlot). n.1.inode == k) (names_of d))) xs ys

-- a slot with no name
pub none_named : (marks : List Held) (f : ℕ → List ℕ) (dir : ℕ) (o : Option DentryForm) → ((k : ℕ) → k < length marks → names_this k o ≡ false) → AreMarks marks f → AreMarks marks (λ k. f k ++ slots_naming dir (o ∷ []) k)
none_named marks f dir o none are = same_below marks f (λ k. f k ++ slots_naming dir (o ∷ []) k) same are
  where
    same : (k : ℕ) → k < length marks → f k ≡ f k ++ slots_naming dir (o ∷ []) k
    same k less = sym (append-nil (f k)) ∙ ap (λ b. f k ++ map (λ (s : Option DentryForm). dir) (cond b (o ∷ []) [])) (sym (none k less))

-- a slot with a name
pub one_named : (marks : List Held) (f : ℕ → List ℕ) (dir : ℕ) (o : Option DentryForm) (d : DentryForm) (at : ℕ) → o ≡ Some d → at ≡ d.inode → is_named d ≡ true → AreMarks marks (one_more f at dir) → AreMarks marks (λ k. f k ++ slots_naming dir (o ∷ []) k)
one_named marks f dir o d at found here named are = same_marks marks (one_more f at dir) (λ k. f k ++ slots_naming dir (o ∷ []) k) (λ k. ap (λ n. one_more f n dir k) here ∙ same k ∙ ap (λ (p : Option DentryForm). f k ++ slots_naming dir (p ∷ []) k) (sym found)) are
  where
    by : (b : Bool) → (if b then dir ∷ [] else []) ≡ map (λ (s : Option DentryForm). dir) (cond b (Some d ∷ []) [])
    by true = refl
    by false = refl

    same : (k : ℕ) → one_more f d.inode dir k ≡ f k ++ slots_naming dir (Some d ∷ []) k
    same k = ap (λ l. f k ++ l) (by (d.inode == k) ∙ ap (λ b. map (λ (s : Option DentryForm). dir) (cond (b && d.inode == k) (Some d ∷ []) [])) (sym named))

-- the names of a directory, slot by slot
pub dir_naming : (inode n : ℕ) (slots : List (Option DentryForm)) (k : ℕ)
    → map (λ (s : NamedSlot). inode) (filter (λ (s : NamedSlot). s.1.inode == k) (names_of (record { inode = inode; slots = enumerate_from n slots }))) ≡ slots_naming inode slots k
dir_naming inode n [] k = refl
dir_naming inode n (None ∷ slots) k = dir_naming inode (n + 1) slots k
dir_naming inode n (Some d ∷ slots) k = by (is_named d) (d.inode == k) refl (dir_naming inode (n + 1) slots k)
  where
    rest : List NamedSlot
    rest = names_of (record { inode = inode; slots = enumerate_from (n + 1) slots })

    by : (a b : Bool) → (d.inode == k) ≡ b → map (λ (s : NamedSlot). inode) (filter (λ (s : NamedSlot). s.1.inode == k) rest) ≡ slots_naming inode slots k
        → map (λ (s : NamedSlot). inode) (filter (λ (s : NamedSlot). s.1.inode == k) (cons_option (some_if a (n, d)) rest)) ≡ map (λ (s : Option DentryForm). inode) (cond (a && b) (Some d ∷ filter (names_this k) slots) (filter (names_this k) slots))
    by false b e more = more
    by true true e more = ap (λ c. map (λ (s : NamedSlot). inode) (cond c ((n, d) ∷ filter (λ (s : NamedSlot). s.1.inode == k) rest) (filter (λ (s : NamedSlot). s.1.inode == k) rest))) e ∙ ap (λ l. inode ∷ l) more
    by true false e more = ap (λ c. map (λ (s : NamedSlot). inode) (cond c ((n, d) ∷ filter (λ (s : NamedSlot). s.1.inode == k) rest) (filter (λ (s : NamedSlot). s.1.inode == k) rest))) e ∙ more

length_map : {X : Type 0} (h : ℕ) (xs ys : List X) (more : List ℕ) → length more ≡ length ys → length (map (λ (x : X). h) xs ++ more) ≡ length (xs ++ ys)
length_map h [] ys more e = e
length_map h (x ∷ xs) ys more e = ap suc (length_map h xs ys more e)

-- so many as there are names
pub naming_count : (dirs : List Dir) (inode : ℕ) → length (naming dirs inode) ≡ names_count dirs inode
naming_count [] inode = refl
naming_count (d ∷ dirs) inode =
    length_map d.inode (filter (λ (n : NamedSlot). n.1.inode == inode) (names_of d)) (filter (λ (n : NamedSlot). n.1.inode == inode) (flat_map names_of dirs)) (naming dirs inode) (naming_count dirs inode)
    ∙ ap length (sym (filter-append (λ (n : NamedSlot). n.1.inode == inode) (names_of d) (flat_map names_of dirs)))

above : (m n : ℕ) → m < suc n → true ≡ nat_lt m (suc n)
above m n less = grind (arith, nat_tests, less)

two_of : (root : Bool) (inode : ℕ) (hs : List ℕ) → some_if (if root then is_some (held_of hs).first else is_some (held_of hs).second) (TwoNames inode) ≡ some_if (nat_lt (if root then 0 else 1) (length hs)) (TwoNames inode)
two_of true inode [] = refl
two_of true inode (a ∷ []) = refl
two_of true inode (a ∷ b ∷ hs) = ap (λ t. some_if t (TwoNames inode)) (above 0 (suc (length hs)) (omega arith))
two_of false inode [] = refl
two_of false inode (a ∷ []) = refl
two_of false inode (a ∷ b ∷ hs) = ap (λ t. some_if t (TwoNames inode)) (above 1 (suc (length hs)) (omega arith))

pub names_is : (dirs : List Dir) (inode : ℕ) → names_damage inode (held_of (naming dirs inode)) ≡ some_if (has_two_names dirs inode) (TwoNames inode)
names_is dirs inode = two_of (inode == 1) inode (naming dirs inode) ∙ ap (λ n. some_if (nat_lt (if inode == 1 then 0 else 1) n) (TwoNames inode)) (naming_count dirs inode)

-- ---- steps of loops

abbrev pub blocks_in : List Extent → List ℕ
blocks_in es = flat_map (λ (e : Extent). range_with_len e.start e.length) es

pub extents_next : (es : List Extent) (i : ℕ) (d : Extent) → i < length es → blocks_in (take (i + 1) es) ≡ blocks_in (take i es) ++ range_with_len (get_or es i d).start (get_or es i d).length
extents_next es i d less =
    ap blocks_in (take_at_read es i d less).1 ∙ flat_map-append (λ (e : Extent). range_with_len e.start e.length) (take i es) (get_or es i d ∷ [])
    ∙ ap (λ l. blocks_in (take i es) ++ l) (append-nil (range_with_len (get_or es i d).start (get_or es i d).length))

pub blocks_more : (es : List Extent) (i : ℕ) (d : Extent) → i < length es → length (blocks_in (take (i + 1) es)) ≡ length (blocks_in (take i es)) + (get_or es i d).length
blocks_more es i d less =
    ap length (extents_next es i d less) ∙ length-append (blocks_in (take i es)) (range_with_len (get_or es i d).start (get_or es i d).length)
    ∙ ap (λ n. length (blocks_in (take i es)) + n) (length-range_with_len (get_or es i d).start (get_or es i d).length)

pub extents_more : (now next : List Held) (f : ℕ → List ℕ) (h : ℕ) (es : List Extent) (i : ℕ) (d : Extent) → i < length es → AreMarks now (all_more f h (blocks_in (take i es)))
    → ((fs : ℕ → List ℕ) → AreMarks now fs → AreMarks next (all_more fs h (range_with_len (get_or es i d).start (get_or es i d).length))) → AreMarks next (all_more f h (blocks_in (take (i + 1) es)))
extents_more now next f h es i d less are put =
    same_marks next (all_more (all_more f h (blocks_in (take i es))) h run) (all_more f h (blocks_in (take (i + 1) es)))
    (λ k. all_behind f h (blocks_in (take i es)) run k ∙ ap (λ l. all_more f h l k) (sym (extents_next es i d less))) (put (all_more f h (blocks_in (take i es))) are)
  where
    run : List ℕ
    run = range_with_len (get_or es i d).start (get_or es i d).length

pub stays_inside : (g : Geometry) (es : List Extent) (i : ℕ) (d : Extent) → list_any (leaves_data g) es ≡ false → i < length es → (get_or es i d).start + (get_or es i d).length ≤ g.blocks
stays_inside g es i d none less = by (any_false_at (leaves_data g) es i (get_or es i d) none less (get_or_default es i d))
  where
    get_or_default : (xs : List Extent) (k : ℕ) (x : Extent) → get_or xs k x ≡ get_or xs k (get_or xs k x)
    get_or_default [] k x = refl
    get_or_default (y ∷ ys) zero x = refl
    get_or_default (y ∷ ys) (suc k) x = get_or_default ys k x

    by : leaves_data g (get_or es i d) ≡ false → (get_or es i d).start + (get_or es i d).length ≤ g.blocks
    by e = grind (arith, nat_tests, e)

pub sound_marks : (marks : List Held) (f : ℕ → List ℕ) (g : Geometry) (inode : ℕ) (o : Option InodeForm) (form : InodeForm) (es : List Extent) → o ≡ Some form → is_sound_form g inode o ≡ true → es ≡ form.extents → AreMarks marks (all_more f inode (blocks_in es)) → AreMarks marks (λ k. f k ++ holders (option_to_list (node_of g (inode, o))) k)
sound_marks marks f g inode o form es found sound same are = same_marks marks (all_more f inode (blocks_in es)) (λ k. f k ++ holders (option_to_list (node_of g (inode, o))) k) one are
  where
    one : (k : ℕ) → all_more f inode (blocks_in es) k ≡ f k ++ holders (option_to_list (node_of g (inode, o))) k
    one k = ap (λ l. f k ++ l) (
        ap (λ xs. times inode (blocks_in xs) k) same ∙ sym (holders_one inode form k) ∙ ap (λ p. holders ((inode, form_of p) ∷ []) k) (sym found)
        ∙ ap (λ b. holders (option_to_list (some_if b (inode, form_of o))) k) (sym sound))

pub inodes_more : (now next : List Held) (g : Geometry) (forms : List (Option InodeForm)) (i m : ℕ) (x : Option InodeForm) → i < length forms → x ≡ get_or forms i x → m ≡ 1 + i → AreMarks now (holders (nodes_in g (take i forms)))
    → ((fs : ℕ → List ℕ) → AreMarks now fs → AreMarks next (λ k. fs k ++ holders (option_to_list (node_of g (m, x))) k)) → AreMarks next (holders (nodes_in g (take (i + 1) forms)))
inodes_more now next g forms i m x less is at are put =
    same_marks next (λ k. holders (nodes_in g (take i forms)) k ++ holders (option_to_list (node_of g (m, x))) k) (holders (nodes_in g (take (i + 1) forms)))
    (λ k. sym (holders_append (nodes_in g (take i forms)) (option_to_list (node_of g (m, x))) k) ∙ ap (λ ns. holders ns k) (sym more)) (put (holders (nodes_in g (take i forms))) are)
  where
    more : nodes_in g (take (i + 1) forms) ≡ nodes_in g (take i forms) ++ option_to_list (node_of g (m, x))
    more = ap (filter_map (node_of g)) (numbered_more 1 m forms i x less is at) ∙ filter_map-append (node_of g) (numbered (take i forms)) ((m, x) ∷ []) ∙ ap (λ l. nodes_in g (take i forms) ++ l) (filter_map_one (node_of g) (m, x))

pub slots_more : (now next : List Held) (f : ℕ → List ℕ) (dir : ℕ) (slots : List (Option DentryForm)) (i : ℕ) (x : Option DentryForm) → i < length slots → x ≡ get_or slots i x → AreMarks now (λ k. f k ++ slots_naming dir (take i slots) k)
    → ((fs : ℕ → List ℕ) → AreMarks now fs → AreMarks next (λ k. fs k ++ slots_naming dir (x ∷ []) k)) → AreMarks next (λ k. f k ++ slots_naming dir (take (i + 1) slots) k)
slots_more now next f dir slots i x less is are put =
    same_marks next (λ k. (f k ++ slots_naming dir (take i slots) k) ++ slots_naming dir (x ∷ []) k) (λ k. f k ++ slots_naming dir (take (i + 1) slots) k)
    (λ k. append_assoc (f k) (slots_naming dir (take i slots) k) (slots_naming dir (x ∷ []) k) ∙ ap (λ l. f k ++ l) (sym (slots_append dir (take i slots) (x ∷ []) k) ∙ ap (λ ss. slots_naming dir ss k) (sym (take_more slots i x less is))))
    (put (λ k. f k ++ slots_naming dir (take i slots) k) are)

pub dir_marks : (marks : List Held) (f : ℕ → List ℕ) (d : Dir) (inode : ℕ) (slots : List (Option DentryForm)) → inode ≡ d.inode → enumerate_from 0 slots ≡ d.slots → AreMarks marks (λ k. f k ++ slots_naming inode slots k) → AreMarks marks (λ k. f k ++ naming (d ∷ []) k)
dir_marks marks f d inode slots same places are = same_marks marks (λ k. f k ++ slots_naming inode slots k) (λ k. f k ++ naming (d ∷ []) k) one are
  where
    one : (k : ℕ) → f k ++ slots_naming inode slots k ≡ f k ++ naming (d ∷ []) k
    one k = ap (λ l. f k ++ l) (
        ap (λ n. slots_naming n slots k) same ∙ sym (dir_naming d.inode 0 slots k)
        ∙ ap (λ ss. map (λ (s : NamedSlot). d.inode) (filter (λ (s : NamedSlot). s.1.inode == k) (names_of (record { inode = d.inode; slots = ss })))) places
        ∙ sym (append-nil (map (λ (s : NamedSlot). d.inode) (filter (λ (s : NamedSlot). s.1.inode == k) (names_of d)))))

pub dirs_more : (now next : List Held) (dirs : List Dir) (i : ℕ) (x : Dir) → i < length dirs → x ≡ get_or dirs i x → AreMarks now (naming (take i dirs))
    → ((fs : ℕ → List ℕ) → AreMarks now fs → AreMarks next (λ k. fs k ++ naming (x ∷ []) k)) → AreMarks next (naming (take (i + 1) dirs))
dirs_more now next dirs i x less is are put =
    same_marks next (λ k. naming (take i dirs) k ++ naming (x ∷ []) k) (naming (take (i + 1) dirs))
    (λ k. sym (naming_append (take i dirs) (x ∷ []) k) ∙ ap (λ ds. naming ds k) (sym (take_more dirs i x less is))) (put (naming (take i dirs)) are)
