-- Each state of a short session over a disk with one file is sound.
use Rattle.std.proofs.Common.{◌≡◌, ℕ, zero, suc, ◌+◌, ◌≤◌, ◌<◌, Bool, true, false, eqb, eq-eqb, ne_eqb, List, [], ◌∷◌, length, Option, Some, None, sym, refl, ap, ◌∙◌, subst, inl, inr, ⊎_elim, arith}
use Rattle.std.specs.Prelude.{slice_get, ◌||◌}
use Rattle.std.specs.List.{list_any, range_with_len}
use Rattle.std.specs.Ordering.{nat_cmp}
use Rattle.std.specs.Cmp.{nat_cmp_total}
use Rattle.std.specs.FinMap as fin
use Rattle.std.specs.FinMap.{nat_cmp-IsAntisymmetric}
use native.Mathlib.Decide.{ℕ_discrete}
use Rattle.ufs_model.specs.Laws.{KeepsTrees, Locality, MakesOneFile}
use Rattle.ufs_model.specs.Start.{StartsHaveContents}
use Rattle.ufs_model.proofs.Facts.Lookups.{inserted_here}
use Rattle.ufs_model.specs.declared.data.Actor.TheVariants.{Primary}
use Rattle.ufs_model.specs.declared.data.Lease.{Lease}
use Rattle.ufs_model.specs.declared.data.PartName.{PartName}
use Rattle.ufs_model.specs.declared.data.PartName.TheVariants as name
use Rattle.ufs_hand_laws.specs.Owned.{one, Has}
use Rattle.ufs_hand_laws.specs.DiskBytes.{is_loaded}
use Rattle.ufs_hand_laws.specs.Draws.{MayDraw}
use Rattle.ufs_hand_laws.specs.Events.{IsFileMoved, MayMove}
use Rattle.ufs_hand_laws.specs.LeasesTrue.{IsListedIn}
use Rattle.ufs_hand_laws.specs.Marks.{IsSingle}
use Rattle.ufs_hand_laws.specs.Parts.{FilePart, NamesPart, StorePart, View, Start}
use Rattle.ufs_hand_laws.specs.ByImages.{by_images}
use Rattle.ufs_hand_laws.specs.FileSession
use Rattle.ufs_hand_laws.specs.FileSession.{FileDisk, HasOneFile, Written, MayBeWritten, IsFileSession, BlindFilesMayBeWritten}
use Rattle.ufs_hand_laws.specs.Opened.{OpenedDisk, opened_file, opened_names, opened_store, opened_view, opened_start}
use Rattle.ufs_hand_laws.specs.Session.{at_word}
use Rattle.ufs_hand_laws.specs.Sound.{IsSound}
use Rattle.ufs_hand_laws.specs.Synced.{IsSynced}
use Rattle.ufs_hand_laws.specs.Whole.{idle_client, idle_asked}
use Rattle.ufs_hand_laws.proofs.Ending.{opens}
use Rattle.ufs_hand_laws.proofs.Asking.{ask_sound}
use Rattle.ufs_hand_laws.proofs.Apart.{split_sound}
use Rattle.ufs_hand_laws.proofs.Drawn.{draw_sound}
use Rattle.ufs_hand_laws.proofs.Happening.Moving.{move_remakes}
use Rattle.ufs_hand_laws.proofs.Marking.{remake_sound}
use Rattle.ufs_hand_laws.proofs.Opened.{opened_can}
use Rattle.ufs_hand_laws.proofs.Openable.{open_may_draw}
use Rattle.ufs_hand_laws.proofs.Owning.{none_some}
use Rattle.ufs_hand_laws.proofs.Synced.{is_synced}

place_within : (xs : List ℕ) (i x : ℕ) → slice_get xs i ≡ Some x → i < length xs
place_within [] i x e = absurd (none_some x e)
place_within (y ∷ xs) zero x e = omega arith
place_within (y ∷ xs) (suc i) x e = let r = place_within xs i x e in omega arith

in_list : (n a c : ℕ) → a ≤ c → c < a + n → list_any (λ x. eqb x c) (range_with_len a n) ≡ true
in_list zero a c l u = absurd (omega arith)
in_list (suc n) a c l u = by (ℕ_discrete a c) (λ m. in_list n (a + 1) c m (omega arith))
  where
    or_true : (b : Bool) → (b || true) ≡ true
    or_true true = refl
    or_true false = refl

    by : Dec (a ≡ c) → (a + 1 ≤ c → list_any (λ x. eqb x c) (range_with_len (a + 1) n) ≡ true) → (eqb a c || list_any (λ x. eqb x c) (range_with_len (a + 1) n)) ≡ true
    by (yes e) r = ap (λ b. b || list_any (λ x. eqb x c) (range_with_len (a + 1) n)) (eq-eqb a c e)
    by (no e) r = ap (λ b. eqb a c || b) (r (omega arith)) ∙ or_true (eqb a c)

module _ (keeps : KeepsTrees) (local : Locality) (makes : MakesOneFile) (have : StartsHaveContents) (d : FileDisk) (o : HasOneFile d) where
  abbrev disk : OpenedDisk
  disk = FileSession.disk d

  abbrev k : Start
  k = opened_start disk

  abbrev asked : View
  asked = FileSession.open_asked d

  abbrev server : View
  server = FileSession.server d

  abbrev loaded : View
  loaded = FileSession.loaded d

  abbrev names_hand : View
  names_hand = FileSession.names_hand d

  one_part : opened_view disk ≡ FileSession.opened d
  one_part = ap (λ n. record (opened_view disk) { files = Rattle.std.proofs.Common.map (λ f. (f, opened_file disk f)) (range_with_len 0 n) }) o.one_file

  after_begin : IsSound by_images k (at_word 0 0) (FileSession.opened d ∷ [])
  after_begin = subst (λ (v : View). IsSound by_images k (at_word 0 0) (v ∷ [])) one_part (opens by_images k (opened_names disk) (opened_store disk) (opened_can keeps have disk o.can))

  after_ask : IsSound by_images k (at_word 0 0) (asked ∷ [])
  after_ask = ask_sound by_images k (at_word 0 0) (FileSession.opened d ∷ []) 0 (FileSession.opened d) 0 (FileSession.open_request d) after_begin refl
      (record { self = idle_client; client = inl refl; before = idle_asked; asked = inl refl; idle = refl; room = omega arith; copies = []; kept = λ l h. h })

  few : (b : Bool) → one b + 0 ≤ 1
  few true = omega arith
  few false = omega arith

  single : IsSingle asked
  single = record { files = λ g. few (eqb g 0); names = omega arith; store = omega arith }

  free : (z : Lease) (q : PartName) → IsListedIn asked z q → ⊥
  free z (name.File h) listed = ⊎_elim (λ (e : (h, listed.0) ≡ (0, opened_file disk 0)). subst (λ (x : FilePart). Has z x.leases) (ap (λ (y : ℕ × FilePart). y.1) e) listed.2) (λ e. absurd e) listed.1
  free z name.Names listed = ⊎_elim (λ (e : (tt, listed.0) ≡ (tt, opened_names disk)). subst (λ (x : NamesPart). Has z x.leases) (ap (λ (y : Unit {0} × NamesPart). y.1) e) listed.2) (λ e. absurd e) listed.1
  free z (name.Client c) listed = absurd listed
  free z (name.Asked c) listed = absurd listed
  free z name.Store listed = absurd listed

  may_open : MayDraw (FileSession.opens d) asked (FileSession.open_leaves d) []
  may_open = open_may_draw 0 0 0 d.path Primary asked single (record idle_client { asked = Some (FileSession.open_request d) }) (inl refl) (omega arith) refl refl (λ fd. fin.get-empty nat_cmp fd) (opened_names disk) refl o.text o.walk o.node free refl

  after_open : IsSound by_images k (at_word 1 0) (FileSession.open_drawn d ∷ [])
  after_open = draw_sound (record { keeps = keeps; local = local; makes = makes; S = by_images; k = k; word = at_word 0 0; views = asked ∷ []; i = 0; v = asked; f = FileSession.opens d; l = FileSession.open_leaves d; known = []; live = λ x none. absurd none; o = after_ask; at = refl; m = may_open })

  after_split : IsSound by_images k (at_word 1 0) (server ∷ names_hand ∷ [])
  after_split = split_sound by_images k (at_word 1 0) (FileSession.open_drawn d ∷ []) 0 name.Names (FileSession.open_drawn d) after_open refl

  in_memory : (place b : ℕ) → slice_get (opened_file disk 0).blocks place ≡ Some b → is_loaded (FileSession.read_file d) place ≡ true
  in_memory place b there = in_list (length (opened_file disk 0).blocks) 0 place (omega arith) (let l = place_within (opened_file disk 0).blocks place b there in omega arith)

  is_moved : IsFileMoved (opened_file disk 0) (FileSession.read_file d)
  is_moved = record { same = refl; kept = λ b h. h; loaded = λ place b there out. absurd (both (sym (in_memory place b there) ∙ out)) }
    where
      both : true ≡ false → ⊥
      both e = cc

  may_move : MayMove server (FileSession.blocks_read d)
  may_move = record {
    file_names = λ n. refl;
    pool_names = λ n. refl;
    has_names = λ u. refl;
    has_store = λ u. refl;
    uses_stay = λ b. refl;
    files = λ h y a. ⊎_elim (λ (e : (h, y) ≡ (0, FileSession.read_file d)). subst (λ (u : ℕ × FilePart). (x : FilePart) × Has (u.0, x) server.files × IsFileMoved x u.1) (sym e) (opened_file disk 0, inl refl, is_moved)) (λ e. absurd e) a;
    names = λ u q a. absurd a;
    store = λ u t a. ⊎_elim (λ (e : (u, t) ≡ (tt, opened_store disk)). subst (λ (z : Unit {0} × StorePart). (s : StorePart) × Has (z.0, s) server.store × (z.1 ≡ record s { unassigned = z.1.unassigned })) (sym e) (opened_store disk, inl refl, refl)) (λ e. absurd e) a;
  }

  after_read : IsSound by_images k (at_word 1 0) (loaded ∷ names_hand ∷ [])
  after_read = remake_sound keeps by_images k (at_word 1 0) (server ∷ names_hand ∷ []) 0 server loaded after_split refl (move_remakes by_images k 1 server (FileSession.blocks_read d) may_move)

  synced : (w : Written) → MayBeWritten d w → IsSynced by_images k (at_word 1 0) (loaded ∷ names_hand ∷ []) 0 (FileSession.writing d w)
  synced w may = is_synced keeps local makes by_images k (at_word 1 0) (loaded ∷ names_hand ∷ []) 0 (FileSession.writing d w) after_read refl (record {
    idle = refl;
    room = omega arith;
    desc = FileSession.desc d;
    open' = inserted_here nat_cmp_total nat_cmp-IsAntisymmetric fin.empty 3 (FileSession.desc d);
    leave = refl;
    of = refl;
    born = refl;
    no_lease = refl;
    in_memory = in_memory;
    some' = may.some';
    fits = may.fits;
    commit = may.commit;
  })

  pub is_file_session : IsFileSession d
  is_file_session = record { after_begin = after_begin; after_ask = after_ask; after_open = after_open; after_split = after_split; after_read = after_read; synced = synced }

pub blind_files : BlindFilesMayBeWritten
blind_files d at bytes blind some' fits = record {
  some' = some';
  fits = fits;
  commit = record {
    file = refl;
    born = refl;
    store = refl;
    last = inl refl;
    others = λ visible. absurd (no visible.visible);
    own = λ visible. absurd (no visible.visible);
    inside = λ visible. absurd (no visible.visible);
    end = λ visible. absurd (no visible.visible);
  };
}
  where
    no : d.is_visible ≡ true → ⊥
    no visible = both (sym blind ∙ visible)
      where
        both : false ≡ true → ⊥
        both e = cc
