-- Each state of a short session over a new disk is sound.
use Rattle.std.proofs.Common.{◌≡◌, ℕ, zero, suc, ◌+◌, ◌≤◌, ◌⊎◌, eqb, ne_eqb, true, false, List, [], ◌∷◌, Option, Some, None, is_some, is_none, cond, sym, refl, ap, ◌∙◌, subst, inl, inr, ⊎_elim, arith}
use Rattle.std.specs.Prelude.{take, drop, ◌||◌}
use Rattle.std.specs.List.{list_any}
use Rattle.std.specs.Ordering.{nat_cmp}
use Rattle.std.specs.FinMap as fin
use Rattle.ufs_base.specs.Choices.{first_of, refused_if}
use Rattle.ufs_layout.specs.declared.geometry.Geometry.{Geometry}
use Rattle.ufs_model.specs.PosixTree.{PosixTree, IsTree, root_alone, desc_at, is_node_of}
use Rattle.ufs_model.specs.Posix.{served}
use Rattle.ufs_model.specs.Laws.{KeepsTrees, Locality, MakesOneFile}
use Rattle.ufs_model.specs.Touched.{IsPartOf, reached}
use Rattle.ufs_model.specs.declared.data.Desc.{Desc}
use Rattle.ufs_model.specs.declared.data.Errno.TheVariants as errno
use Rattle.ufs_model.specs.declared.data.Op.TheVariants as op
use Rattle.ufs_model.specs.declared.data.PartName.{PartName}
use Rattle.ufs_model.specs.declared.data.PartName.TheVariants as part
use Rattle.ufs_model.proofs.Facts.Held.{open_by}
use native.Mathlib.Decide.{ℕ_discrete}
use Rattle.ufs_model.specs.PosixTree.{Paths}
use Rattle.ufs_model.specs.declared.data.Entry.{Entry}
use Rattle.ufs_hand_laws.specs.Owned.{one, Has, times}
use Rattle.ufs_hand_laws.specs.Parts.{Cells, ClientPart, NamesPart, StorePart, View, Start, HoldsPart}
use Rattle.ufs_hand_laws.specs.Sound.{IsSound}
use Rattle.ufs_hand_laws.specs.Visible.{IsDiskVisible}
use Rattle.ufs_hand_laws.specs.Draws.{IsIn, IsAbsent, IsUnchanged, MayDraw, entry_of}
use Rattle.ufs_hand_laws.specs.Marks.{IsSingle}
use Rattle.ufs_hand_laws.specs.Events.{AreNamesMoved, MayMove, IsLent, turn_begun, MayPass, committed_names, MayCommitNames, MayFail, MayCheckpoint, MayAnswer}
use Rattle.ufs_hand_laws.specs.Whole.{CanOpen, HoldsAll, idle_client, idle_asked}
use Rattle.ufs_hand_laws.specs.ByImages.{by_images}
use Rattle.ufs_hand_laws.specs.First.{new_names, new_store, new_start}
use Rattle.ufs_hand_laws.specs.Session
use Rattle.ufs_hand_laws.specs.Session.{at_word, refused, no_files, IsShortSession}
use Rattle.ufs_hand_laws.proofs.Ending.{opens, ends_whole}
use Rattle.ufs_hand_laws.proofs.Asking.{ask_sound}
use Rattle.ufs_hand_laws.proofs.Apart.{split_sound, join_sound}
use Rattle.ufs_hand_laws.proofs.Drawn.{draw_sound}
use Rattle.ufs_hand_laws.proofs.Drawable.{may_draw}
use Rattle.ufs_hand_laws.proofs.Clocking.{look_sound, tick_sound}
use Rattle.ufs_hand_laws.proofs.Marking.{remake_sound}
use Rattle.ufs_hand_laws.proofs.Happening.Moving.{move_remakes}
use Rattle.ufs_hand_laws.proofs.Happening.Turning.{turn_remakes}
use Rattle.ufs_hand_laws.proofs.Happening.NameCommit.{naming_remakes}
use Rattle.ufs_hand_laws.proofs.Happening.Passing.{pass_remakes}
use Rattle.ufs_hand_laws.proofs.Happening.Checking.{checkpoint_remakes}
use Rattle.ufs_hand_laws.proofs.Happening.Failing.{fail_remakes}
use Rattle.ufs_hand_laws.proofs.Happening.Answering.{answer_remakes}
use Rattle.ufs_hand_laws.proofs.Commits.{fewer_show}
use Rattle.ufs_hand_laws.specs.Shown.{ShowsImages}

times_cut : (n b : ℕ) (xs : List ℕ) → times b (take n xs) + times b (drop n xs) ≡ times b xs
times_cut zero b xs = omega arith
times_cut (suc n) b [] = omega arith
times_cut (suc n) b (x ∷ xs) = let i = times_cut n b xs in omega arith

module _ (keeps : KeepsTrees) (local : Locality) (makes : MakesOneFile) (g : Geometry) (cells : Cells) (can : CanOpen by_images (new_start 1 g cells) new_names (new_store g cells)) where
  abbrev k : Start
  k = new_start 1 g cells

  abbrev asking_client : ClientPart
  asking_client = record idle_client { asked = Some (op.Fsync 3) }

  abbrev server : View
  server = Session.server g cells

  abbrev client : View
  client = Session.client g cells

  abbrev supplied : View
  supplied = Session.supplied g cells

  abbrev in_turn : View
  in_turn = Session.in_turn g cells

  abbrev names_then : NamesPart
  names_then = Session.names_then g cells

  abbrev store_then : StorePart
  store_then = Session.store_then g cells

  abbrev turned_store : StorePart
  turned_store = turn_begun 1 [] 0 store_then

  after_begin : IsSound by_images k (at_word 0 0) (Session.opened g cells ∷ [])
  after_begin = opens by_images k new_names (new_store g cells) can

  after_ask : IsSound by_images k (at_word 0 0) (Session.asked g cells ∷ [])
  after_ask = ask_sound by_images k (at_word 0 0) (Session.opened g cells ∷ []) 0 (Session.opened g cells) 0 (op.Fsync 3) after_begin refl
      (record { self = idle_client; client = inl refl; before = idle_asked; asked = inl refl; idle = refl; room = omega arith; copies = []; kept = λ l h. h })

  after_split : IsSound by_images k (at_word 0 0) (server ∷ client ∷ [])
  after_split = split_sound by_images k (at_word 0 0) (Session.asked g cells ∷ []) 0 (part.Client 0) (Session.asked g cells) after_ask refl

  module _ (t : PosixTree) (within : IsIn client t) where
    none_there : desc_at t 0 3 ≡ None
    none_there = sym (within.clients 0 asking_client (inl refl) 3) ∙ fin.get-empty nat_cmp 3

  single : IsSingle client
  single = record { files = λ n. omega arith; names = omega arith; store = omega arith }

  may : MayDraw refused client no_files []
  may = may_draw refused client single asking_client (inl refl) (omega arith) refl refl (λ n e. cc) (λ n e. cc) (λ a b e. cc) (λ e. cc) quiet
    where
      quiet : (t : PosixTree) → IsTree t → IsIn client t → Rattle.ufs_hand_laws.proofs.Drawable.IsQuietOn refused client t
      quiet t is within = record {
        replied = inl (sym (ap (λ (o : Option Desc). (served t 0 (op.Fsync 3) (first_of (refused_if (is_none o) errno.Ebadf) None)).1) (none_there t within)));
        touched = λ e p h. mine p (subst (λ (o : Option Desc). IsPartOf (part.Client 0 ∷ cond (is_some (refused_if (is_none o) errno.Ebadf)) [] (reached t 0 (op.Fsync 3))) p) (none_there t within) h);
        stays = ap (λ (o : Option Desc). (served t 0 (op.Fsync 3) (first_of (refused_if (is_none o) errno.Ebadf) None)).0) (none_there t within);
        no_change = λ f. refl;
        no_names = refl;
      }
        where
          mine : (p : PartName) → IsPartOf (part.Client 0 ∷ []) p → HoldsPart p client ⊎ (IsAbsent p t ⊎ IsUnchanged p t (entry_of 0 refused))
          mine p (inl e) = inl (subst (λ (q : PartName). HoldsPart q client) (sym e) (omega arith))
          mine p (inr e) = absurd e

  after_draw : IsSound by_images k (at_word 1 0) (server ∷ Session.answered g cells ∷ [])
  after_draw = draw_sound (record {
    keeps = keeps;
    local = local;
    makes = makes;
    S = by_images;
    k = k;
    word = at_word 0 0;
    views = server ∷ client ∷ [];
    i = 1;
    v = client;
    f = refused;
    l = no_files;
    known = [];
    live = λ x none. absurd none;
    o = after_split;
    at = refl;
    m = may;
  })

  after_look : IsSound by_images k (at_word 1 0) (server ∷ Session.at_rest g cells ∷ [])
  after_look = look_sound by_images k (at_word 1 0) (server ∷ Session.answered g cells ∷ []) 1 (Session.answered g cells) after_draw refl

  after_tick : IsSound by_images k (at_word 1 5) (Session.ticked_server g cells ∷ Session.at_rest g cells ∷ [])
  after_tick = tick_sound by_images k (at_word 1 0) (server ∷ Session.at_rest g cells ∷ []) 0 server after_look refl 5 new_names refl

  may_move : MayMove (Session.ticked_server g cells) (Session.blocks_moved g cells)
  may_move = record {
    file_names = λ n. refl;
    pool_names = λ n. refl;
    has_names = λ u. refl;
    has_store = λ u. refl;
    uses_stay = λ b. let t = times_cut 2 b (new_store g cells).unassigned in omega arith;
    files = λ n y h. absurd h;
    names = λ u q h. ⊎_elim
        (λ (e : (u, q) ≡ (tt, names_then)). (names_then, inl refl, subst (AreNamesMoved names_then) (sym (ap (λ (z : Unit {0} × NamesPart). z.1) e)) (record { same = refl; dropped = λ n bs x. x; blocks = λ b x. x })))
        (λ e. absurd e) h;
    store = λ u t h. ⊎_elim
        (λ (e : (u, t) ≡ (tt, store_then)). (new_store g cells, inl refl, subst (λ (z : StorePart). z ≡ record (new_store g cells) { unassigned = z.unassigned }) (sym (ap (λ (z : Unit {0} × StorePart). z.1) e)) refl))
        (λ e. absurd e) h;
  }

  after_move : IsSound by_images k (at_word 1 5) (supplied ∷ Session.at_rest g cells ∷ [])
  after_move = remake_sound keeps by_images k (at_word 1 5) (Session.ticked_server g cells ∷ Session.at_rest g cells ∷ []) 0 (Session.ticked_server g cells) supplied after_tick refl
      (move_remakes by_images k 1 (Session.ticked_server g cells) (Session.blocks_moved g cells) may_move)

  lends_nothing : IsLent supplied [] 0
  lends_nothing = record { files = λ f n h. absurd h; names = inl refl }

  after_turn : IsSound by_images k (at_word 1 5) (in_turn ∷ Session.at_rest g cells ∷ [])
  after_turn = remake_sound keeps by_images k (at_word 1 5) (supplied ∷ Session.at_rest g cells ∷ []) 0 supplied in_turn after_move refl
      (turn_remakes by_images k 1 supplied store_then refl [] 0 lends_nothing)

  may_commit : MayCommitNames by_images k 1 in_turn names_then turned_store (Session.nothing_new g cells)
  may_commit = record {
    names = refl;
    store = refl;
    fewer = λ f bs e. e;
    gone = λ f bs h. absurd h;
    dirs = λ was b h. absurd h;
    born = λ f h. absurd h;
    last = inl refl;
    others = λ visible b z l. refl;
    own = λ visible f x h. absurd h;
    inside = λ visible h lent shows d none. absurd none;
    end = λ visible h is shows. shows;
  }

  after_commit : IsSound by_images k (at_word 1 5) (Session.committed_server g cells ∷ Session.at_rest g cells ∷ [])
  after_commit = remake_sound keeps by_images k (at_word 1 5) (in_turn ∷ Session.at_rest g cells ∷ []) 0 in_turn (Session.committed_server g cells) after_turn refl
      (naming_remakes by_images k 1 in_turn names_then turned_store (Session.nothing_new g cells) may_commit)

  -- ---- what the store does besides

  abbrev rest : View
  rest = Session.at_rest g cells

  -- the same states show the same
  still : IsDiskVisible k → (h : List Entry) (files : ℕ → ℕ) (names : ℕ) (paths : Option Paths) → ShowsImages k.tree h files names paths cells → (d : Cells) → Has d (cells ∷ []) → ShowsImages k.tree h files names None d
  still visible h files names paths shows d (inl e) = subst (ShowsImages k.tree h files names None) (sym e) (fewer_show k.tree h files files names names paths cells (λ f. omega arith) (omega arith) shows)
  still visible h files names paths shows d (inr e) = absurd e

  may_pass : MayPass by_images k (Session.committed_server g cells) (Session.store_committed g cells) [] 0 (Session.barrier g cells)
  may_pass = record {
    store = refl;
    lends = record { files = λ f n h. absurd h; names = inl refl };
    last = inl refl;
    others = λ visible b z l. refl;
    own = λ visible f x h. absurd h;
    inside = λ visible h had shows. still visible h _ _ _ shows;
    end = λ visible h has shows. shows;
  }

  after_pass : IsSound by_images k (at_word 1 5) (Session.after_barrier g cells ∷ rest ∷ [])
  after_pass = remake_sound keeps by_images k (at_word 1 5) (Session.committed_server g cells ∷ rest ∷ []) 0 (Session.committed_server g cells) (Session.after_barrier g cells) after_commit refl
      (pass_remakes by_images k 1 (Session.committed_server g cells) (Session.store_committed g cells) [] 0 (Session.barrier g cells) may_pass)

  may_check : MayCheckpoint by_images k (Session.after_barrier g cells) (committed_names names_then (Session.nothing_new g cells)) (Session.store_settled g cells) (Session.nothing_freed g cells)
  may_check = record {
    names = refl;
    store = refl;
    blocks = λ b. refl;
    fewer = λ b h. h;
    apart = λ b h none. none;
    last = inl refl;
    others = λ visible b z l. refl;
    own = λ visible f x h. absurd h;
    inside = λ visible h had shows. still visible h _ _ _ shows;
    end = λ visible h is shows. shows;
  }

  after_checkpoint : IsSound by_images k (at_word 1 5) (Session.checked_server g cells ∷ rest ∷ [])
  after_checkpoint = remake_sound keeps by_images k (at_word 1 5) (Session.after_barrier g cells ∷ rest ∷ []) 0 (Session.after_barrier g cells) (Session.checked_server g cells) after_pass refl
      (checkpoint_remakes by_images k 1 (Session.after_barrier g cells) (committed_names names_then (Session.nothing_new g cells)) (Session.store_settled g cells) (Session.nothing_freed g cells) may_check)

  may_fail : MayFail by_images k (Session.checked_server g cells) (Session.store_emptied g cells) (Session.device_fault g cells)
  may_fail = record {
    store = refl;
    running = refl;
    new = refl;
    last = inl refl;
    others = λ visible b z l. refl;
    own = λ visible f x h. absurd h;
    inside = λ visible h had shows. still visible h _ _ _ shows;
  }

  after_failure : IsSound by_images k (at_word 1 5) (Session.stopped_server g cells ∷ rest ∷ [])
  after_failure = remake_sound keeps by_images k (at_word 1 5) (Session.checked_server g cells ∷ rest ∷ []) 0 (Session.checked_server g cells) (Session.stopped_server g cells) after_checkpoint refl
      (fail_remakes by_images k 1 (Session.checked_server g cells) (Session.store_emptied g cells) (Session.device_fault g cells) may_fail)

  may_answer : MayAnswer (Session.stopped_server g cells) (Session.store_stopped g cells) (2 ∷ [])
  may_answer = record { store = refl; new = λ n. once n (ℕ_discrete n 2) (ℕ_discrete n 1) }
    where
      once : (n : ℕ) → Dec (n ≡ 2) → Dec (n ≡ 1) → times n (2 ∷ 1 ∷ []) ≤ 1
      once n (yes e) d = let a : times n (2 ∷ 1 ∷ []) ≡ times 2 (2 ∷ 1 ∷ []) = ap (λ m. times m (2 ∷ 1 ∷ [])) e in omega arith
      once n (no a) (yes e) = let z : times n (2 ∷ 1 ∷ []) ≡ times 1 (2 ∷ 1 ∷ []) = ap (λ m. times m (2 ∷ 1 ∷ [])) e in omega arith
      once n (no a) (no b) = let x : one (eqb n 2) ≡ 0 = ap one (ne_eqb n 2 a) in let y : one (eqb n 1) ≡ 0 = ap one (ne_eqb n 1 b) in omega arith

  after_answer : IsSound by_images k (at_word 1 5) (Session.answered_server g cells ∷ rest ∷ [])
  after_answer = remake_sound keeps by_images k (at_word 1 5) (Session.stopped_server g cells ∷ rest ∷ []) 0 (Session.stopped_server g cells) (Session.answered_server g cells) after_failure refl
      (answer_remakes by_images k 1 (Session.stopped_server g cells) (Session.store_stopped g cells) (2 ∷ []) (Session.too_few g cells ∷ []) may_answer)

  after_join : IsSound by_images k (at_word 1 5) (Session.together g cells ∷ Rattle.ufs_hand_laws.specs.Parts.spent ∷ [])
  after_join = join_sound by_images k (at_word 1 5) (Session.answered_server g cells ∷ Session.at_rest g cells ∷ []) 0 1 (Session.answered_server g cells) (Session.at_rest g cells) after_answer refl (λ e. cc) refl

  no_file : (t : PosixTree) → IsTree t → IsIn (Session.together g cells) t → (f : ℕ) → is_some (fin.get t.bytes f) ≡ false
  no_file t is within f =
      is.live f
      ∙ (λ j. list_any (is_node_of f) (fin.values (sym (within.paths tt (Session.last_names g cells) (inl refl)) j)) || open_by t.fds root_alone.fds f (λ c. sym (within.holds tt (Session.last_names g cells) (inl refl) c f) ∙ sym (can.free c f)) j)
      ∙ sym (can.tree.live f) ∙ ap is_some (fin.get-empty nat_cmp f)

  abbrev has_all : HoldsAll k (Session.together g cells)
  has_all = record {
    clients = λ c. omega arith;
    names = Session.last_names g cells;
    has_names = refl;
    store = Session.last_store g cells;
    has_store = refl;
    files = λ t is within f there. absurd (both (sym there ∙ no_file t is within f));
  }
    where
      both : true ≡ false → ⊥
      both e = cc

  pub is_short_session : IsDiskVisible k → IsShortSession k g cells
  is_short_session visible = record {
    visible = visible;
    after_begin = after_begin;
    after_ask = after_ask;
    after_split = after_split;
    after_draw = after_draw;
    after_look = after_look;
    after_tick = after_tick;
    after_move = after_move;
    after_turn = after_turn;
    after_commit = after_commit;
    after_pass = after_pass;
    after_checkpoint = after_checkpoint;
    after_failure = after_failure;
    after_answer = after_answer;
    after_join = after_join;
    at_end = ends_whole keeps by_images k (at_word 1 5) (Session.together g cells ∷ Rattle.ufs_hand_laws.specs.Parts.spent ∷ []) 0 (Session.together g cells) after_join refl has_all;
  }
