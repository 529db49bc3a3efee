-- What stands at each path of the tree that a session begins with, and how its files are numbered.
use Rattle.std.proofs.Common.{◌≡◌, ℕ, ◌+◌, ◌≤◌, ◌<◌, List, [], ◌∷◌, Bool, true, false, cond, eqb, ltb, leb, Some, None, Option, ap, sym, refl, ◌∙◌, arith}
use Rattle.std.proofs.lemmas.Bool.{and_parts, leb-true}
use Rattle.std.proofs.lemmas.Bool.Decides.{nat_tests}
use Rattle.std.specs.Prelude.{is_some}
use Rattle.std.specs.Option.{option_map}
use Rattle.std.specs.Ordering.{nat_cmp, eq_by_cmp, ordering_reverse}
use Rattle.std.specs.declared.cmp.Ordering.TheVariants.{Less, Equal, Greater}
use Rattle.std.specs.Cmp.{nat_cmp_total, tied_itself}
use Rattle.std.specs.FinMap as map
use Rattle.std.specs.FinMap.{find, is_sorted, get-entries, get-from_entries}
use Rattle.std.specs.FinMap.Entries.{below_all}
use Rattle.ufs_model.specs.Order.{path_cmp}
use Rattle.ufs_model.specs.Start.{PathNodes, content_of, HasContents, IsNumberedByPath, start_of, node_from, next_after, paths_from, bytes_from}
use Rattle.ufs_model.specs.declared.data.Node.{Node}
use Rattle.ufs_model.specs.declared.data.Node.TheVariants.{Dir, File}
use Rattle.ufs_model.specs.declared.data.PathNode.{PathNode}
use Rattle.ufs_model.specs.declared.data.PathNode.TheVariants as path_node
use Rattle.ufs_model.proofs.Facts.Orders.{path_total, path_same}
use Rattle.ufs_model.proofs.Facts.Rising.{entries-rise, less}
use Rattle.ufs_model.proofs.Facts.Lookups.{tied}
use Rattle.ufs_model.proofs.Facts.Starts.{Pairs, is_within, stands-paths_from, held-bytes_from, tie}

-- as `content_of`, by a list of bytes
shown : List (ℕ × List ℕ) → Option Node → Option PathNode
shown bytes None = None
shown bytes (Some Dir) = Some path_node.Dir
shown bytes (Some (File f)) = option_map path_node.File (find nat_cmp f bytes)

within_above : (n m f : ℕ) → is_within (n + 1) m f ≡ true → eqb n f ≡ false
unfolding is_within
within_above n m f h = grind (arith, nat_tests)

same_test : (n : ℕ) → eqb n n ≡ true
same_test n = grind (arith, nat_tests)

within_from : (n m f : ℕ) → is_within n m f ≡ true → n ≤ f
unfolding is_within
within_from n m f h = leb-true n f (and_parts (leb n f) (ltb f m) h).0

mapped : (o : Option (List ℕ)) → is_some (option_map path_node.File o) ≡ true → is_some o ≡ true
mapped None h = h
mapped (Some x) h = refl

-- the bytes of a file with a number below say nothing of those above
shown_above : (n : ℕ) (b : List ℕ) (es : Pairs) (o : Option Node) → is_some (shown (bytes_from (n + 1) es) o) ≡ is_some o → shown ((n, b) ∷ bytes_from (n + 1) es) o ≡ shown (bytes_from (n + 1) es) o
unfolding shown
shown_above n b es None h = refl
shown_above n b es (Some Dir) h = refl
shown_above n b es (Some (File f)) h =
    let held : is_some (find nat_cmp f (bytes_from (n + 1) es)) ≡ true = mapped (find nat_cmp f (bytes_from (n + 1) es)) h in
    ap (λ t. option_map path_node.File (cond t (Some b) (find nat_cmp f (bytes_from (n + 1) es)))) (tie f n ∙ within_above n _ f (sym (held-bytes_from f (n + 1) es) ∙ held))

shown-paths_from : (q : List ℕ) (n : ℕ) (es : Pairs) → shown (bytes_from n es) (find path_cmp q (paths_from n es)) ≡ find path_cmp q es
unfolding shown
shown-paths_from q n [] = refl
shown-paths_from q n ((p, path_node.Dir) ∷ es) =
    elim (eq_by_cmp path_cmp q p) as (λ b. shown (bytes_from n es) (cond b (Some Dir) (find path_cmp q (paths_from n es))) ≡ cond b (Some path_node.Dir) (find path_cmp q es)) [
      | true ↦ refl
      | false ↦ shown-paths_from q n es
    ]
shown-paths_from q n ((p, path_node.File bytes) ∷ es) =
    elim (eq_by_cmp path_cmp q p) as (λ b. shown ((n, bytes) ∷ bytes_from (n + 1) es) (cond b (Some (File n)) (find path_cmp q (paths_from (n + 1) es))) ≡ cond b (Some (path_node.File bytes)) (find path_cmp q es)) [
      | true ↦ ap (λ t. option_map path_node.File (cond t (Some bytes) (find nat_cmp n (bytes_from (n + 1) es)))) (tie n n ∙ same_test n)
      | false ↦
          let rest = shown-paths_from q (n + 1) es in
          shown_above n bytes es _ (ap is_some rest ∙ sym (stands-paths_from q (n + 1) es)) ∙ rest
    ]

content-shown : (es : List (ℕ × List ℕ)) (o : Option Node) → content_of (map.from_entries es) o ≡ shown es o
unfolding shown
content-shown es None = refl
content-shown es (Some Dir) = refl
content-shown es (Some (File f)) = ap (option_map path_node.File) (get-from_entries nat_cmp_total es f)

pub start_has_contents : (nodes : PathNodes) → HasContents (start_of nodes) nodes
start_has_contents nodes q =
    let es = map.entries nodes in
    content-shown (bytes_from 0 es) _
    ∙ ap (shown (bytes_from 0 es)) (get-from_entries path_total (paths_from 0 es) q)
    ∙ shown-paths_from q 0 es
    ∙ sym (get-entries nodes q)

-- a file that is found has a number from the first on
least : (q : List ℕ) (n : ℕ) (es : Pairs) (g : ℕ) → find path_cmp q (paths_from n es) ≡ Some (File g) → n ≤ g
unfolding shown
least q n es g is =
    let there : is_some (find path_cmp q es) ≡ true = sym (stands-paths_from q n es) ∙ ap is_some is in
    let bytes : shown (bytes_from n es) (Some (File g)) ≡ find path_cmp q es = ap (shown (bytes_from n es)) (sym is) ∙ shown-paths_from q n es in
    within_from n _ g (sym (held-bytes_from g n es) ∙ mapped (find nat_cmp g (bytes_from n es)) (ap is_some bytes ∙ there))

-- what is found among paths above one is above it
above : (k q : List ℕ) (es : Pairs) → below_all path_cmp k es ≡ true → is_some (find path_cmp q es) ≡ true → path_cmp k q ≡ Less
above k q [] h is = cc
above k q (e ∷ es) h is =
    let both = and_parts _ _ h in
    elim (eq_by_cmp path_cmp q e.0) as (λ b. eq_by_cmp path_cmp q e.0 ≡ b → is_some (cond b (Some e.1) (find path_cmp q es)) ≡ true → path_cmp k q ≡ Less) [
      | true ↦ λ t _. ap (path_cmp k) (path_same q e.0 (tied _ t)) ∙ less _ both.0
      | false ↦ λ _ is. above k q es both.1 is
    ] refl is

first_below : (n : ℕ) (node : PathNode) (f g : ℕ) → Some (node_from n node) ≡ Some (File f) → next_after n node ≤ g → f < g
first_below n path_node.Dir f g is h = cc
first_below n (path_node.File bytes) f g is h = let same : n ≡ f = cc in omega arith

numbered-paths_from : (p q : List ℕ) (f g : ℕ) → path_cmp p q ≡ Less → (n : ℕ) (es : Pairs) → is_sorted path_cmp es ≡ true → find path_cmp p (paths_from n es) ≡ Some (File f) → find path_cmp q (paths_from n es) ≡ Some (File g) → f < g
numbered-paths_from p q f g before n [] rising at_p at_q = cc
numbered-paths_from p q f g before n (e ∷ es) rising at_p at_q =
    split (numbered-paths_from p q f g before (next_after n e.1) es (and_parts _ _ rising).1) (eq_by_cmp path_cmp p e.0) (eq_by_cmp path_cmp q e.0) refl refl at_p at_q
  where
    split : (find path_cmp p (paths_from (next_after n e.1) es) ≡ Some (File f) → find path_cmp q (paths_from (next_after n e.1) es) ≡ Some (File g) → f < g)
        → (b c : Bool) → eq_by_cmp path_cmp p e.0 ≡ b → eq_by_cmp path_cmp q e.0 ≡ c
        → cond b (Some (node_from n e.1)) (find path_cmp p (paths_from (next_after n e.1) es)) ≡ Some (File f)
        → cond c (Some (node_from n e.1)) (find path_cmp q (paths_from (next_after n e.1) es)) ≡ Some (File g) → f < g
    split later true true p_is q_is at_p at_q =
        let same : p ≡ q = path_same p e.0 (tied _ p_is) ∙ sym (path_same q e.0 (tied _ q_is)) in
        let equal : path_cmp p q ≡ Equal = ap (path_cmp p) (sym same) ∙ tied_itself path_total p in
        cc
    split later true false p_is q_is at_p at_q = first_below n e.1 f g at_p (least q (next_after n e.1) es g at_q)
    split later false true p_is q_is at_p at_q =
        let there : is_some (find path_cmp p es) ≡ true = sym (stands-paths_from p (next_after n e.1) es) ∙ ap is_some at_p in
        let after : path_cmp e.0 p ≡ Less = above e.0 p es (and_parts _ _ rising).0 there in
        let turned : path_cmp p e.0 ≡ Greater = path_total.antisymm p e.0 ∙ ap ordering_reverse after in
        let same : path_cmp p q ≡ path_cmp p e.0 = ap (path_cmp p) (path_same q e.0 (tied _ q_is)) in
        cc
    split later false false p_is q_is at_p at_q = later at_p at_q

pub start_is_numbered : (nodes : PathNodes) → IsNumberedByPath (start_of nodes)
start_is_numbered nodes p q f g at_p at_q before =
    let es = map.entries nodes in
    numbered-paths_from p q f g before 0 es (entries-rise nodes) (sym (get-from_entries path_total (paths_from 0 es) p) ∙ at_p) (sym (get-from_entries path_total (paths_from 0 es) q) ∙ at_q)
