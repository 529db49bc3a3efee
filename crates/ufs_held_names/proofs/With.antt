-- A request of the names that touches a live file, once its entry is drawn and the hands are parted.
use Rattle.std.proofs.Common.{◌≡◌, ◌≢◌, ◌≤◌, ◌++◌, ℕ, inl, Bool, true, false, cond, List, [], ◌∷◌, Option, Some, None, sym, refl, ap, ◌∙◌, subst}
use Rattle.std.specs.Prelude.{IfSome, IsSome, unwrap_or}
use Rattle.std.specs.FinMap as map
use Rattle.ufs_bitmap.specs.Blocks.{BlockSet}
use Rattle.ufs_file_commits.specs.State.{DurableState, state_of}
use Rattle.ufs_file.specs.Hand.{IsEntryOf}
use Rattle.ufs_files.specs.Files.{Files}
use Rattle.ufs_model.specs.Asks.{fd_told}
use Rattle.ufs_model.specs.History.{is_excused}
use Rattle.ufs_model.specs.declared.data.Actor.{Actor}
use Rattle.ufs_model.specs.declared.data.Ask.{Ask}
use Rattle.ufs_model.specs.declared.data.Desc.{Desc}
use Rattle.ufs_model.specs.declared.data.Entry.{Entry}
use Rattle.ufs_model.specs.declared.data.Excuse.{Excuse}
use Rattle.ufs_model.specs.declared.data.PartName.TheVariants.{File, Names}
use Rattle.ufs_model.specs.declared.data.Reply.TheVariants as reply
use Rattle.ufs_names.specs.Space.{IsCause}
use Rattle.ufs_hand_laws.specs.Parts.{ClientPart}
use Rattle.ufs_promise_laws.specs.Parts.{Commits}
use Rattle.ufs_joint.specs.Cells.{FileCell, NamesCell, View, both_of, given_of, kept_of}
use Rattle.ufs_joint.specs.Draws.{drawn}
use Rattle.ufs_noted.specs.Known.{commits_in, file_in}
use Rattle.ufs_noted.specs.Noted.{HasServedWith, MayLack, Noted, one_file, one_known}
use Rattle.ufs_noted.specs.declared.known.KnownFile.{KnownFile}
use Rattle.ufs_held.specs.Asking.{IsGuest}
use Rattle.ufs_held.specs.Drawn.{fresh_of}
use Rattle.ufs_held.specs.Held.{HasFileAlone, IsHeld, first_cell}
use Rattle.ufs_held.proofs.After.{came_below}
use Rattle.ufs_client.specs.Played.{tells_fault}
use Rattle.ufs_held_names.specs.Come.{HasCome, IsStillThere, commits_of, files_of, files_then}
use Rattle.ufs_held_names.specs.Drawn.{known_in, known_number, names_left, names_then, next_cell, next_cells, parted}
use Rattle.ufs_held_names.specs.HeldNames.{HoldsNames, first_names, noted_in}
use Rattle.ufs_held_names.proofs.After.{HasAll, answered_all, drawn_all, drawn_names, file_first, file_given, file_kept, first_given, guest_kept, joined_with, names_after, names_given, noted_after, part_after, parted_faults, parted_names, parted_seen}

-- What is told once it is drawn.
pub record HasDrawnWith (ask : Ask) (by : Actor) (x y : Noted) (pool left : BlockSet) (file : KnownFile) (then : Option KnownFile) (e : Entry) (d : Option Desc) (j z : View) : Type 0 where
  pub entry : IsEntryOf ask by e.ticket e
  pub cells : z ≡ drawn e.ticket (fresh_of e) (names_left (fresh_of e) j y left d (next_cells then j.files) e.ticket) j
  pub served : is_excused e.reply ≡ false
      → HasServedWith ask x y (one_file file.hand.file (Some file.hand)) (one_file file.hand.file (file_in then)) (one_known file.hand.file (Some file.commits)) (one_known file.hand.file (commits_in then)) pool left (Some file.hand.file) e.reply d
  pub number : IfSome then (λ k. k.hand.file ≡ file.hand.file)
  pub lives : (f : ℕ) → IsSome (map.get y.names.held f) → IsSome (map.get x.names.held f)
  pub next : y.names.next ≡ x.names.next
  pub gone : is_excused e.reply ≡ false → then ≡ None → map.get y.names.held file.hand.file ≡ None
  pub cause : (q : Excuse) → e.reply ≡ reply.Excused q → (lent : BlockSet) × MayLack pool lent q × IsCause x.names.tree.dirs lent ask.op q
  pub unchanged : is_excused e.reply ≡ true → y ≡ x
  pub untaken : is_excused e.reply ≡ true → left ≡ pool
  pub kept : is_excused e.reply ≡ true → then ≡ Some file
  pub desc : is_excused e.reply ≡ true → d ≡ ask.desc
  pub no_desc : fd_told e.op e.reply ≡ None → d ≡ None
  pub faultless : tells_fault e.reply ≡ false
  pub faults : z.faults ≡ j.faults
  pub later : j.seen ≤ e.ticket

-- the cell of the touched file then
abbrev still_cell : Bool → KnownFile → ℕ → FileCell → FileCell
still_cell excused k ticket c = cond excused c (next_cell k ticket c)

abbrev still_cells : Bool → Option KnownFile → ℕ → ℕ → FileCell → List (ℕ × FileCell)
still_cells excused None ticket number c = []
still_cells excused (Some k) ticket number c = (number, still_cell excused k ticket c) ∷ []

none_is : {A : Type 0} (o : Option A) (a : A) → o ≡ None → o ≡ Some a → ⊥
none_is o a is some = (let clash : None ≡ Some a = sym is ∙ some in cc)

some_is : (o : Option KnownFile) (k file : KnownFile) → o ≡ Some k → o ≡ Some file → k ≡ file
some_is o k file is some = ap (λ (q : Option KnownFile). unwrap_or q file) (sym is ∙ some)

module _ (ask : Ask) (by : Actor) (x y : Noted) (pool left : BlockSet) (file : KnownFile) (then : Option KnownFile) (e : Entry) (d : Option Desc) (own lent guest j z : View) (drew : HasDrawnWith ask by x y pool left file then e d j z)
    (held : HoldsNames x own) (c : FileCell) (alone : HasFileAlone c lent) (value : c.value ≡ state_of file.hand file.commits) (joined : j ≡ both_of (both_of own lent) guest) where
  abbrev cell_then : NamesCell
  cell_then = names_after y e held.cell

  abbrev number : ℕ
  number = c.value.file.file

  number_is : file.hand.file ≡ c.value.file.file
  number_is = ap (λ (q : DurableState). q.file.file) (sym value)

  same_files : j.files ≡ (c.value.file.file, c) ∷ [] → cond (is_excused e.reply) ((c.value.file.file, c) ∷ []) (next_cells then j.files e.ticket) ≡ still_cells (is_excused e.reply) then e.ticket c.value.file.file c
  same_files has = ap (λ (cs : List (ℕ × FileCell)). cond (is_excused e.reply) ((c.value.file.file, c) ∷ []) (next_cells then cs e.ticket)) has ∙ at (is_excused e.reply) then refl refl
    where
      at : (b : Bool) (o : Option KnownFile) → is_excused e.reply ≡ b → then ≡ o → cond b ((c.value.file.file, c) ∷ []) (next_cells o ((c.value.file.file, c) ∷ []) e.ticket) ≡ still_cells b o e.ticket c.value.file.file c
      at true None is none = absurd (none_is then file none (drew.kept is))
      at true (Some k) is some = refl
      at false None is none = refl
      at false (Some k) is some = refl

  still_value : (k : KnownFile) → then ≡ Some k → (still_cell (is_excused e.reply) k e.ticket c).value ≡ state_of k.hand k.commits
  still_value k some = at (is_excused e.reply) refl
    where
      at : (b : Bool) → is_excused e.reply ≡ b → (still_cell b k e.ticket c).value ≡ state_of k.hand k.commits
      at true is = value ∙ ap (λ (q : KnownFile). state_of q.hand q.commits) (sym (some_is then k file some (drew.kept is)))
      at false is = refl

  its_number : (k : KnownFile) → then ≡ Some k → k.hand.file ≡ c.value.file.file
  its_number k some = subst (λ (o : Option KnownFile). IfSome o (λ q. q.hand.file ≡ file.hand.file)) some drew.number ∙ number_is

  -- with whoever came
  module _ (part : ClientPart) (n : ℕ) (came : IsGuest ask.client part n pool guest) (off : n ≢ c.value.file.file) where
    has_joined : HasAll ask.client part n pool held.cell ((c.value.file.file, c) ∷ []) j
    has_joined = subst (HasAll ask.client part n pool held.cell ((c.value.file.file, c) ∷ [])) (sym joined) (joined_with own lent guest x c ask.client part n pool held alone came)

    has_drawn : HasAll ask.client (part_after part e d) n left cell_then (still_cells (is_excused e.reply) then e.ticket c.value.file.file c) z
    has_drawn = subst (λ (fs : List (ℕ × FileCell)). HasAll ask.client (part_after part e d) n left cell_then fs z) (same_files (joined_files has_joined))
        (drawn_all ask.client part n pool held.cell ((c.value.file.file, c) ∷ []) j z y left e d (next_cells then j.files) has_joined drew.entry.client drew.cells)
      where
        joined_files : HasAll ask.client part n pool held.cell ((c.value.file.file, c) ∷ []) j → j.files ≡ (c.value.file.file, c) ∷ []
        joined_files has = has.files_are

    has_file : (k : KnownFile) → then ≡ Some k → HasAll ask.client (part_after part e d) n left cell_then ((k.hand.file, still_cell (is_excused e.reply) k e.ticket c) ∷ []) z
    has_file k some =
        subst (λ (m : ℕ). HasAll ask.client (part_after part e d) n left cell_then ((m, still_cell (is_excused e.reply) k e.ticket c) ∷ []) z) (sym (its_number k some))
        (subst (λ (o : Option KnownFile). HasAll ask.client (part_after part e d) n left cell_then (still_cells (is_excused e.reply) o e.ticket c.value.file.file c) z) some has_drawn)

    first_is : (k : KnownFile) → then ≡ Some k → first_cell (state_of k.hand k.commits) (given_of (File k.hand.file) z).files ≡ still_cell (is_excused e.reply) k e.ticket c
    first_is k some = file_first ask.client (part_after part e d) n left cell_then z k.hand.file (still_cell (is_excused e.reply) k e.ticket c) (has_file k some) (λ same. off (same ∙ its_number k some)) (state_of k.hand k.commits)

    -- the file goes with its cell
    pub known_held : IfSome then (λ k. IsHeld (state_of k.hand k.commits) (given_of (File k.hand.file) z))
    known_held = at then refl
      where
        at : (o : Option KnownFile) → then ≡ o → IfSome o (λ k. IsHeld (state_of k.hand k.commits) (given_of (File k.hand.file) z))
        at None is = tt
        at (Some k) is =
            file_given ask.client (part_after part e d) n left cell_then z k.hand.file (still_cell (is_excused e.reply) k e.ticket c) (has_file k is) (λ same. off (same ∙ its_number k is)) (state_of k.hand k.commits) (still_value k is) refl

    has_parted : HasAll ask.client (part_after part e d) n left cell_then [] (parted (known_number then) z)
    has_parted = at then refl
      where
        at : (o : Option KnownFile) → then ≡ o → HasAll ask.client (part_after part e d) n left cell_then [] (parted (known_number o) z)
        at None is = subst (λ (o : Option KnownFile). HasAll ask.client (part_after part e d) n left cell_then (still_cells (is_excused e.reply) o e.ticket c.value.file.file c) z) is has_drawn
        at (Some k) is = file_kept ask.client (part_after part e d) n left cell_then z k.hand.file (still_cell (is_excused e.reply) k e.ticket c) (has_file k is) (λ same. off (same ∙ its_number k is))

    pub guest_back : IsGuest ask.client (part_after part e d) n left (kept_of Names (parted (known_number then) z))
    guest_back = guest_kept ask.client (part_after part e d) n left cell_then (parted (known_number then) z) has_parted

    still_there : is_excused e.reply ≡ false → IfSome (known_in then z) (IsStillThere e.ticket (Some c))
    still_there served = at then refl
      where
        at : (o : Option KnownFile) → then ≡ o → IfSome (known_in o z) (IsStillThere e.ticket (Some c))
        at None is = tt
        at (Some k) is =
            let first = first_is k is ∙ ap (λ (b : Bool). still_cell b k e.ticket c) served in
            subst (IsStillThere e.ticket (Some c)) (sym first) (refl, its_number k is)

    kept_file : is_excused e.reply ≡ true → known_in then z ≡ Some c
    kept_file excused = at then refl
      where
        at : (o : Option KnownFile) → then ≡ o → known_in o z ≡ Some c
        at None is = absurd (none_is then file is (drew.kept excused))
        at (Some k) is = ap Some (first_is k is ∙ ap (λ (b : Bool). still_cell b k e.ticket c) excused)

    files_left : files_then (known_in then z) None ≡ one_file file.hand.file (file_in then)
    files_left = at then refl
      where
        at : (o : Option KnownFile) → then ≡ o → files_then (known_in o z) None ≡ one_file file.hand.file (file_in o)
        at None is = refl
        at (Some k) is =
            ap (λ (q : FileCell). files_of (Some q)) (first_is k is) ∙ ap (λ (q : DurableState). one_file q.file.file (Some q.file)) (still_value k is)
            ∙ ap (λ (m : ℕ). one_file m (Some k.hand)) (its_number k is ∙ sym number_is)

    commits_left : commits_of (known_in then z) ≡ one_known file.hand.file (commits_in then)
    commits_left = at then refl
      where
        at : (o : Option KnownFile) → then ≡ o → commits_of (known_in o z) ≡ one_known file.hand.file (commits_in o)
        at None is = refl
        at (Some k) is =
            ap (λ (q : FileCell). commits_of (Some q)) (first_is k is) ∙ ap (λ (q : DurableState). one_known q.file.file (Some (record { log = q.log; dropped = q.dropped }))) (still_value k is)
            ∙ ap (λ (m : ℕ). one_known m (Some k.commits)) (its_number k is ∙ sym number_is)

  -- ---- the names

  names_are : j.names ≡ (tt, held.cell) ∷ [] → (parted (known_number then) z).names ≡ (tt, cell_then) ∷ []
  names_are has = parted_names (known_number then) z ∙ drawn_names held.cell j z y left e d (next_cells then j.files) has drew.cells

  pub held_with : j.names ≡ (tt, held.cell) ∷ [] → HoldsNames y (given_of Names (parted (known_number then) z))
  held_with has = names_given cell_then (parted (known_number then) z) (names_are has) y (noted_after x y e held.cell held.value drew.unchanged)

  pub first_with : j.names ≡ (tt, held.cell) ∷ [] → first_names y (given_of Names (parted (known_number then) z)).names ≡ cell_then
  first_with has = first_given cell_then (parted (known_number then) z) (names_are has) y

  -- ---- all together

  served_parts : (part : ClientPart) (n : ℕ) → IsGuest ask.client part n pool guest → n ≢ c.value.file.file → is_excused e.reply ≡ false
      → HasServedWith ask (noted_in held.cell) (noted_in cell_then) (files_of (Some c)) (files_then (known_in then z) None) (commits_of (Some c)) (commits_of (known_in then z)) pool left (Some c.value.file.file) e.reply d
  served_parts part n came off is =
      subst (λ (q : Noted × Noted × Files × Commits × ℕ). HasServedWith ask q.0 q.1 (files_of (Some c)) q.2 (commits_of (Some c)) q.3 pool left (Some q.4) e.reply d)
      (λ i. (sym held.value i, sym (noted_after x y e held.cell held.value drew.unchanged) i, sym (files_left part n came off) i, sym (commits_left part n came off) i, number_is i))
      (subst (λ (q : DurableState). HasServedWith ask x y (one_file q.file.file (Some q.file)) (one_file file.hand.file (file_in then)) (one_known q.file.file (Some (record { log = q.log; dropped = q.dropped }))) (one_known file.hand.file (commits_in then)) pool left (Some file.hand.file) e.reply d)
      (sym value) (drew.served is))

  pub come_with : (part : ClientPart) (n : ℕ) → IsGuest ask.client part n pool guest → n ≢ c.value.file.file → own.faults ≡ [] → lent.faults ≡ []
      → HasCome ask by held.cell cell_then pool left (Some c) (known_in then z) None e d guest (kept_of Names (parted (known_number then) z))
  come_with part n came off calm calm_lent = record {
    entry = drew.entry;
    guest = λ p m here apart. (part_after p e d, answered_all p e d, guest_back p m here (λ same. apart.touched (ap Some (sym same))));
    served = served_parts part n came off;
    names = names_served;
    file = still_there part n came off;
    made = tt;
    lives = λ f live. inl (subst (λ (q : Noted). IsSome (map.get q.names.held f)) (sym held.value) (drew.lives f (subst (λ (q : Noted). IsSome (map.get q.names.held f)) (noted_after x y e held.cell held.value drew.unchanged) live)));
    next = ap (λ (q : Noted). q.names.next) (noted_after x y e held.cell held.value drew.unchanged) ∙ drew.next ∙ sym (ap (λ (q : Noted). q.names.next) held.value);
    gone = gone;
    cause = λ q is. let why = drew.cause q is in (why.0, why.1, subst (λ (k : Noted). IsCause k.names.tree.dirs why.0 ask.op q) (sym held.value) why.2);
    kept = λ is. ap (λ (b : Bool). cond b held.cell (names_then y e.ticket held.cell)) is;
    kept_file = kept_file part n came off;
    none_made = λ is. refl;
    untaken = drew.untaken;
    desc = drew.desc;
    no_desc = drew.no_desc;
    faultless = drew.faultless;
    not_both = λ some. refl;
    faults = parted_faults (known_number then) z ∙ drew.faults ∙ ap (λ (v : View). v.faults) joined ∙ (λ i. (calm i ++ calm_lent i) ++ guest.faults);
    later = came_below (both_of own lent) guest j e.ticket joined drew.later;
    seen = parted_seen (known_number then) z ∙ ap (λ (v : View). v.seen) drew.cells;
  }
    where
      none_then : (o : Option KnownFile) → known_in o z ≡ None → o ≡ None
      none_then None is = refl
      none_then (Some k) is = absurd cc

      gone : is_excused e.reply ≡ false → known_in then z ≡ None → map.get cell_then.value.held c.value.file.file ≡ None
      gone is none = subst (λ (q : Noted × ℕ). map.get q.0.names.held q.1 ≡ None) (λ i. (sym (noted_after x y e held.cell held.value drew.unchanged) i, number_is i)) (drew.gone is (none_then then none))

      whole : is_excused e.reply ≡ false → cell_then ≡ names_then y e.ticket held.cell
      whole q = ap (λ (b : Bool). cond b held.cell (names_then y e.ticket held.cell)) q

      names_served : is_excused e.reply ≡ false → cell_then ≡ names_then (noted_in cell_then) e.ticket held.cell
      names_served is = whole is ∙ ap (λ (c' : NamesCell). names_then (noted_in c') e.ticket held.cell) (sym (whole is))
