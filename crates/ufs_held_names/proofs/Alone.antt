-- A request of the names that touches no live file, once its entry is drawn and the hands are parted.
use Rattle.std.proofs.Common.{◌≡◌, ◌≢◌, ◌≤◌, ◌+◌, ◌++◌, ◌⊎◌, ℕ, Bool, true, false, cond, List, [], ◌∷◌, Option, Some, None, is_some, sym, refl, ap, ◌∙◌, subst}
use Rattle.std.specs.Prelude.{IfSome, IsSome}
use Rattle.std.specs.FinMap as map
use Rattle.ufs_bitmap.specs.Blocks.{BlockSet}
use Rattle.ufs_file_commits.specs.State.{state_of}
use Rattle.ufs_file.specs.Hand.{FileState, IsEntryOf}
use Rattle.ufs_files.specs.Files.{Files}
use Rattle.ufs_model.specs.Asks.{fd_told}
use Rattle.ufs_model.specs.History.{is_excused}
use Rattle.ufs_model.specs.declared.data.Actor.{Actor}
use Rattle.ufs_model.specs.declared.data.Ask.{Ask}
use Rattle.ufs_model.specs.declared.data.Desc.{Desc}
use Rattle.ufs_model.specs.declared.data.Entry.{Entry}
use Rattle.ufs_model.specs.declared.data.Excuse.{Excuse}
use Rattle.ufs_model.specs.declared.data.PartName.TheVariants.{File, Names}
use Rattle.ufs_model.specs.declared.data.Reply.TheVariants as reply
use Rattle.ufs_names.specs.Calls.{no_bytes}
use Rattle.ufs_names.specs.Space.{IsCause}
use Rattle.ufs_hand_laws.specs.Parts.{ClientPart}
use Rattle.ufs_promise_laws.specs.Parts.{committed_as}
use Rattle.ufs_joint.specs.Cells.{FileCell, NamesCell, View, both_of, given_of, kept_of}
use Rattle.ufs_joint.specs.Draws.{drawn}
use Rattle.ufs_noted.specs.Noted.{HasServedWith, MayLack, Noted, one_file}
use Rattle.ufs_held.specs.Asking.{IsGuest}
use Rattle.ufs_held.specs.Drawn.{fresh_of}
use Rattle.ufs_held.specs.Held.{IsHeld, first_cell}
use Rattle.ufs_held.proofs.After.{came_below}
use Rattle.ufs_held_names.specs.Asked.{number_of}
use Rattle.ufs_client.specs.Played.{tells_fault}
use Rattle.ufs_held_names.specs.Come.{HasCome, files_of}
use Rattle.ufs_held_names.specs.Drawn.{made_in, made_number, names_left, names_then, new_cell, new_cells, parted}
use Rattle.ufs_held_names.specs.HeldNames.{HoldsNames, first_names, noted_in}
use Rattle.ufs_held_names.proofs.After.{HasAll, answered_all, drawn_all, drawn_names, file_first, file_given, file_kept, first_given, guest_kept, joined_alone, names_after, names_given, noted_after, part_after, parted_faults, parted_names, parted_seen}

-- What is told once it is drawn.
pub record HasDrawnAlone (ask : Ask) (by : Actor) (x y : Noted) (pool left : BlockSet) (file : Option FileState) (e : Entry) (d : Option Desc) (j z : View) : Type 0 where
  pub entry : IsEntryOf ask by e.ticket e
  pub cells : z ≡ drawn e.ticket (fresh_of e) (names_left (fresh_of e) j y left d (new_cells file) e.ticket) j
  pub served : is_excused e.reply ≡ false → HasServedWith ask x y map.empty (one_file x.names.next file) map.empty map.empty pool left None e.reply d
  pub young : IfSome file (λ s. s ≡ no_bytes x.names.next s.inode)
  pub lives : (f : ℕ) → IsSome (map.get y.names.held f) → IsSome (map.get x.names.held f) ⊎ (made_number file ≡ Some f)
  pub next : y.names.next ≡ cond (is_some file) (x.names.next + 1) x.names.next
  pub cause : (q : Excuse) → e.reply ≡ reply.Excused q → (lent : BlockSet) × MayLack pool lent q × IsCause x.names.tree.dirs lent ask.op q
  pub unchanged : is_excused e.reply ≡ true → y ≡ x
  pub untaken : is_excused e.reply ≡ true → left ≡ pool
  pub none : is_excused e.reply ≡ true → file ≡ None
  pub desc : is_excused e.reply ≡ true → d ≡ ask.desc
  pub no_desc : fd_told e.op e.reply ≡ None → d ≡ None
  pub faultless : tells_fault e.reply ≡ false
  pub faults : z.faults ≡ j.faults
  pub later : j.seen ≤ e.ticket

module _ (ask : Ask) (by : Actor) (x y : Noted) (pool left : BlockSet) (file : Option FileState) (e : Entry) (d : Option Desc) (own guest j z : View) (drew : HasDrawnAlone ask by x y pool left file e d j z)
    (held : HoldsNames x own) (joined : j ≡ both_of own guest) where
  abbrev cell_then : NamesCell
  cell_then = names_after y e held.cell

  same_files : cond (is_excused e.reply) [] (new_cells file e.ticket) ≡ new_cells file e.ticket
  same_files = by_reply (is_excused e.reply) refl
    where
      by_reply : (b : Bool) → is_excused e.reply ≡ b → cond b [] (new_cells file e.ticket) ≡ new_cells file e.ticket
      by_reply true is = sym (ap (λ (o : Option FileState). new_cells o e.ticket) (drew.none is))
      by_reply false is = refl

  number_is : (s : FileState) → file ≡ Some s → s.file ≡ x.names.next
  number_is s is = ap (λ (q : FileState). q.file) (subst (λ (o : Option FileState). IfSome o (λ q. q ≡ no_bytes x.names.next q.inode)) is drew.young)

  -- with whoever came
  module _ (part : ClientPart) (n : ℕ) (came : IsGuest ask.client part n pool guest) (off : n ≢ x.names.next) where
    has_drawn : HasAll ask.client (part_after part e d) n left cell_then (new_cells file e.ticket) z
    has_drawn = subst (λ (fs : List (ℕ × FileCell)). HasAll ask.client (part_after part e d) n left cell_then fs z) same_files
        (drawn_all ask.client part n pool held.cell [] j z y left e d (new_cells file)
        (subst (HasAll ask.client part n pool held.cell []) (sym joined) (joined_alone own guest x ask.client part n pool held came)) drew.entry.client drew.cells)

    -- the new file goes with its cell
    pub made_held : IfSome file (λ s. IsHeld (state_of s (committed_as s)) (given_of (File s.file) z))
    made_held = at file refl
      where
        at : (o : Option FileState) → file ≡ o → IfSome o (λ s. IsHeld (state_of s (committed_as s)) (given_of (File s.file) z))
        at None is = tt
        at (Some s) is =
            file_given ask.client (part_after part e d) n left cell_then z s.file (new_cell s e.ticket) (subst (λ (o : Option FileState). HasAll ask.client (part_after part e d) n left cell_then (new_cells o e.ticket) z) is has_drawn)
            (λ same. off (same ∙ number_is s is)) (state_of s (committed_as s)) refl refl

    made_first : (s : FileState) → file ≡ Some s → first_cell (state_of s (committed_as s)) (given_of (File s.file) z).files ≡ new_cell s e.ticket
    made_first s is =
        file_first ask.client (part_after part e d) n left cell_then z s.file (new_cell s e.ticket) (subst (λ (o : Option FileState). HasAll ask.client (part_after part e d) n left cell_then (new_cells o e.ticket) z) is has_drawn)
        (λ same. off (same ∙ number_is s is)) (state_of s (committed_as s))

    pub made_is : IfSome (made_in file z) (λ c. c ≡ new_cell (no_bytes x.names.next c.value.file.inode) e.ticket)
    made_is = at file refl
      where
        at : (o : Option FileState) → file ≡ o → IfSome (made_in o z) (λ c. c ≡ new_cell (no_bytes x.names.next c.value.file.inode) e.ticket)
        at None is = tt
        at (Some s) is =
            let first = made_first s is in
            let its : s ≡ no_bytes x.names.next s.inode = subst (λ (o : Option FileState). IfSome o (λ q. q ≡ no_bytes x.names.next q.inode)) is drew.young in
            subst (λ (c : FileCell). c ≡ new_cell (no_bytes x.names.next c.value.file.inode) e.ticket) (sym first) (ap (λ (q : FileState). new_cell q e.ticket) its)

    pub made_files : files_of (made_in file z) ≡ one_file x.names.next file
    made_files = at file refl
      where
        at : (o : Option FileState) → file ≡ o → files_of (made_in o z) ≡ one_file x.names.next o
        at None is = refl
        at (Some s) is =
            let first = made_first s is in
            ap (λ (c : FileCell). files_of (Some c)) first ∙ ap (λ (k : ℕ). one_file k (Some s)) (number_is s is)

    has_parted : HasAll ask.client (part_after part e d) n left cell_then [] (parted (made_number file) z)
    has_parted = at file refl
      where
        at : (o : Option FileState) → file ≡ o → HasAll ask.client (part_after part e d) n left cell_then [] (parted (made_number o) z)
        at None is = subst (λ (o : Option FileState). HasAll ask.client (part_after part e d) n left cell_then (new_cells o e.ticket) z) is has_drawn
        at (Some s) is =
            file_kept ask.client (part_after part e d) n left cell_then z s.file (new_cell s e.ticket) (subst (λ (o : Option FileState). HasAll ask.client (part_after part e d) n left cell_then (new_cells o e.ticket) z) is has_drawn)
            (λ same. off (same ∙ number_is s is))

    pub guest_back : IsGuest ask.client (part_after part e d) n left (kept_of Names (parted (made_number file) z))
    guest_back = guest_kept ask.client (part_after part e d) n left cell_then (parted (made_number file) z) has_parted

  -- ---- the names

  names_are : j.names ≡ (tt, held.cell) ∷ [] → (parted (made_number file) z).names ≡ (tt, cell_then) ∷ []
  names_are has = parted_names (made_number file) z ∙ drawn_names held.cell j z y left e d (new_cells file) has drew.cells

  pub held_alone : j.names ≡ (tt, held.cell) ∷ [] → HoldsNames y (given_of Names (parted (made_number file) z))
  held_alone has = names_given cell_then (parted (made_number file) z) (names_are has) y (noted_after x y e held.cell held.value drew.unchanged)

  pub first_alone : j.names ≡ (tt, held.cell) ∷ [] → first_names y (given_of Names (parted (made_number file) z)).names ≡ cell_then
  first_alone has = first_given cell_then (parted (made_number file) z) (names_are has) y

  -- ---- all together

  pub come_alone : (part : ClientPart) (n : ℕ) → IsGuest ask.client part n pool guest → n ≢ x.names.next → own.faults ≡ []
      → HasCome ask by held.cell cell_then pool left None None (made_in file z) e d guest (kept_of Names (parted (made_number file) z))
  come_alone part n came off calm = record {
    entry = drew.entry;
    guest = λ p m here apart. (part_after p e d, answered_all p e d, guest_back p m here (λ same. apart.new (same ∙ sym next)));
    served = λ is.
        subst (λ (q : Noted × Noted × Files). HasServedWith ask q.0 q.1 map.empty q.2 map.empty map.empty pool left None e.reply d)
        (λ i. (sym held.value i, sym (noted_after x y e held.cell held.value drew.unchanged) i, sym (made_files part n came off) i)) (drew.served is);
    names = λ is. names_served is;
    file = λ is. tt;
    lives = lives;
    next = next_then;
    gone = λ is none. tt;
    made = subst (λ (k : ℕ). IfSome (made_in file z) (λ c. c ≡ new_cell (no_bytes k c.value.file.inode) e.ticket)) (sym next) (made_is part n came off);
    cause = λ q is. let why = drew.cause q is in (why.0, why.1, subst (λ (k : Noted). IsCause k.names.tree.dirs why.0 ask.op q) (sym held.value) why.2);
    kept = λ is. ap (λ (b : Bool). cond b held.cell (names_then y e.ticket held.cell)) is;
    kept_file = λ is. refl;
    none_made = λ is. ap (λ (o : Option FileState). made_in o z) (drew.none is);
    untaken = drew.untaken;
    desc = drew.desc;
    no_desc = drew.no_desc;
    faultless = drew.faultless;
    not_both = λ some. absurd cc;
    faults = parted_faults (made_number file) z ∙ drew.faults ∙ ap (λ (v : View). v.faults) joined ∙ ap (λ (fs : List ℕ). fs ++ guest.faults) calm;
    later = came_below own guest j e.ticket joined drew.later;
    seen = parted_seen (made_number file) z ∙ ap (λ (v : View). v.seen) drew.cells;
  }
    where
      numbers : made_number file ≡ number_of (made_in file z)
      numbers = at file refl
        where
          at : (o : Option FileState) → file ≡ o → made_number o ≡ number_of (made_in o z)
          at None is = refl
          at (Some s) is = ap Some (sym (ap (λ (c : FileCell). c.value.file.file) (made_first part n came off s is)))

      now_noted : noted_in cell_then ≡ y
      now_noted = noted_after x y e held.cell held.value drew.unchanged

      lives : (f : ℕ) → IsSome (map.get cell_then.value.held f) → IsSome (map.get held.cell.value.held f) ⊎ (number_of (made_in file z) ≡ Some f)
      lives f live =
          subst (λ (q : Noted × Option ℕ). IsSome (map.get q.0.names.held f) ⊎ (q.1 ≡ Some f)) (λ i. (sym held.value i, numbers i)) (drew.lives f (subst (λ (q : Noted). IsSome (map.get q.names.held f)) now_noted live))

      some_in : (o : Option FileState) → is_some o ≡ is_some (made_in o z)
      some_in None = refl
      some_in (Some s) = refl

      next_then : cell_then.value.next ≡ cond (is_some (made_in file z)) (held.cell.value.next + 1) held.cell.value.next
      next_then =
          subst (λ (q : Noted × Noted × Bool). q.0.names.next ≡ cond q.2 (q.1.names.next + 1) q.1.names.next) (λ i. (sym now_noted i, sym held.value i, some_in file i)) drew.next

      next : held.cell.value.next ≡ x.names.next
      next = ap (λ (q : Noted). q.names.next) held.value

      names_served : is_excused e.reply ≡ false → cell_then ≡ names_then (noted_in cell_then) e.ticket held.cell
      names_served is = whole is ∙ ap (λ (c : NamesCell). names_then (noted_in c) e.ticket held.cell) (sym (whole is))
        where
          whole : is_excused e.reply ≡ false → cell_then ≡ names_then y e.ticket held.cell
          whole q = ap (λ (b : Bool). cond b held.cell (names_then y e.ticket held.cell)) q
