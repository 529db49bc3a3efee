-- Each step of the session with a lease may be taken.
use Rattle.std.proofs.Common.{◌≡◌, ℕ, ◌+◌, ◌≤◌, Bool, true, false, eqb, List, [], ◌∷◌, length, map, Some, sym, refl, ap, subst, inl, inr, ⊎_elim, arith}
use Rattle.std.specs.List.{range_with_len}
use Rattle.std.specs.Ordering.{nat_cmp}
use Rattle.std.specs.Cmp.{nat_cmp_total}
use Rattle.std.specs.FinMap as fin
use Rattle.std.specs.FinMap.{nat_cmp-IsAntisymmetric}
use Rattle.ufs_model.specs.FileBytes.{part}
use Rattle.ufs_model.specs.Laws.{KeepsTrees}
use Rattle.ufs_model.specs.Start.{StartsHaveContents}
use Rattle.ufs_model.specs.declared.data.Actor.TheVariants.{Primary, Client}
use Rattle.ufs_model.specs.declared.data.Lease.{Lease}
use Rattle.ufs_model.specs.declared.data.PartName.{PartName}
use Rattle.ufs_model.specs.declared.data.PartName.TheVariants as name
use Rattle.ufs_model.proofs.Facts.Lookups.{inserted_here}
use Rattle.ufs_hand_laws.specs.Draws.{MayDraw, drawn}
use Rattle.ufs_hand_laws.specs.FileSession as session
use Rattle.ufs_hand_laws.specs.FileSession.{HasOneFile, small_disk}
use Rattle.ufs_hand_laws.specs.LeasesTrue.{IsListedIn}
use Rattle.ufs_hand_laws.specs.Marks.{IsSingle, asked_by}
use Rattle.ufs_hand_laws.specs.Opened.{opened_file, opened_names, opened_store, opened_view, opened_start}
use Rattle.ufs_hand_laws.specs.Owned.{one, Has, count}
use Rattle.ufs_hand_laws.specs.Parts.{ClientPart, FilePart, NamesPart, StorePart, View}
use Rattle.ufs_hand_laws.specs.Whole.{HoldsAll, idle_client, idle_asked}
use Rattle.ufs_hand_laws.proofs.LeasedReads.{leased_may_draw}
use Rattle.ufs_hand_laws.proofs.Opened.{opened_can}
use Rattle.ufs_hand_laws.proofs.Openable.{open_may_draw}
use Rattle.ufs_hand_laws.proofs.SmallDisk.{has_one_file, no_bytes}
use Rattle.ufs_hand_laws.specs.Clock.{looked}
use Rattle.ufs_hand_laws.specs.Rule.{word_at}
use Rattle.ufs_hand.specs.Session.{CanBegin, DrewLocal, IsEvent, first_view, word_of}
use Rattle.ufs_hand.specs.declared.hand.Drawn.{Drawn}
use Rattle.ufs_hand.specs.declared.hand.Drawn.TheVariants as drew
use Rattle.ufs_hand_tests.specs.Leased.{one_file, open_asked, opens, lease, read_request, reads, opened_by, granted, client_then, holding, read_asked, read_leaves}

one_part : opened_start (session.disk small_disk) ≡ one_file
one_part = ap (λ n. record one_file { view = record (opened_view (session.disk small_disk)) { files = map (λ f. (f, opened_file (session.disk small_disk) f)) (range_with_len 0 n) } }) has_one_file.one_file

pub begins : KeepsTrees → StartsHaveContents → CanBegin one_file
begins keeps have = subst CanBegin one_part (record { names = opened_names (session.disk small_disk); store = opened_store (session.disk small_disk); can = opened_can keeps have (session.disk small_disk) has_one_file.can })

pub asks : IsEvent one_file (first_view one_file) open_asked
asks = inl (record { client = 0; request = session.open_request small_disk; may = record { self = idle_client; client = inl refl; before = idle_asked; asked = inl refl; idle = refl; room = omega arith; copies = []; kept = λ l h. h }; is = refl })

module _ (asked : ℕ) where
  single : IsSingle (open_asked asked)
  single = record { files = λ g. few (eqb g 0); names = omega arith; store = omega arith }
    where
      few : (b : Bool) → one b + 0 ≤ 1
      few true = omega arith
      few false = omega arith

  free : (z : Lease) (q : PartName) → IsListedIn (open_asked asked) z q → ⊥
  free z (name.File h) listed = ⊎_elim (λ (e : (h, listed.0) ≡ (0, opened_file (session.disk small_disk) 0)). subst (λ (x : FilePart). Has z x.leases) (ap (λ (y : ℕ × FilePart). y.1) e) listed.2) (λ e. absurd e) listed.1
  free z name.Names listed = ⊎_elim (λ (e : (tt, listed.0) ≡ (tt, opened_names (session.disk small_disk))). subst (λ (x : NamesPart). Has z x.leases) (ap (λ (y : Unit {0} × NamesPart). y.1) e) listed.2) (λ e. absurd e) listed.1
  free z (name.Client c) listed = absurd listed
  free z (name.Asked c) listed = absurd listed
  free z name.Store listed = absurd listed

  pub may_open : MayDraw opens (open_asked asked) (session.open_leaves small_disk) []
  may_open = open_may_draw 0 0 0 small_disk.path Primary (open_asked asked) single (record idle_client { asked = Some (session.open_request small_disk) }) (inl refl) (omega arith) refl refl (λ fd. fin.get-empty nat_cmp fd)
      (opened_names (session.disk small_disk)) refl has_one_file.text has_one_file.walk has_one_file.node free refl

  module _ (ticket : ℕ) where
    open' : fin.get {K = ℕ} {R = nat_cmp} (fin.insert fin.empty 3 (session.desc small_disk)) 3 ≡ Some (session.desc small_disk)
    open' = inserted_here nat_cmp_total nat_cmp-IsAntisymmetric fin.empty 3 (session.desc small_disk)

    pub grants : IsEvent one_file (opened_by asked ticket) (granted asked ticket)
    grants = inr (inl (inl (record {
      lease = lease;
      may = record {
        self = client_then asked ticket;
        client = inl refl;
        open' = λ g e. (3, session.desc small_disk, open', e);
        fact = (opened_file (session.disk small_disk) 0, inl refl, ap length no_bytes, ap (λ (bytes : List ℕ). part bytes 0 0) no_bytes);
        ends = omega arith;
      };
      is = refl;
    })))

    module _ (at : ℕ) where
      pub asks_read : IsEvent one_file (granted asked ticket at) (read_asked asked ticket)
      asks_read = inl (record {
        client = 0;
        request = read_request;
        may = record {
          self = holding asked ticket;
          client = inl refl;
          before = asked_by asked (session.open_request small_disk) [] idle_client;
          asked = inl refl;
          idle = refl;
          room = omega arith;
          copies = lease ∷ [];
          kept = λ l h. h;
        };
        is = refl;
      })

      one_each : IsSingle (read_asked asked ticket at)
      one_each = record { files = λ g. few (eqb g 0); names = omega arith; store = omega arith }
        where
          few : (b : Bool) → one b + 0 ≤ 1
          few true = omega arith
          few false = omega arith

      pub may_read : MayDraw reads (read_asked asked ticket at) read_leaves (lease ∷ [])
      may_read = leased_may_draw 0 1 3 4 0 0 5 [] (Client 0) (read_asked asked ticket at) one_each (record (holding asked ticket) { asked = Some read_request }) (inl refl) (omega arith) refl refl (session.desc small_disk) open' refl refl (inl refl)

-- ---- the end

has_all : (v : View) (self : ClientPart) (x : FilePart) (p : NamesPart) (s : StorePart) → v.clients ≡ (0, self) ∷ [] → v.files ≡ (0, x) ∷ [] → v.names ≡ (tt, p) ∷ [] → p.next ≡ (opened_names (session.disk small_disk)).next → v.store ≡ (tt, s) ∷ []
    → HoldsAll one_file v
has_all v self x p s clients files names next store = record {
  clients = λ c. let e = ap (count eqb c) clients in omega arith;
  names = p;
  has_names = names;
  store = s;
  has_store = store;
  files = λ t is within f there.
      let low = is.numbered f there in
      let of = within.next tt p (subst (Has {A = Unit {0} × NamesPart} (tt, p)) (sym names) (inl refl)) in
      let few = has_one_file.one_file in
      let first : 0 ≡ f = omega (arith, low, of, next, few) in
      let e = ap (count eqb 0) files in
      subst (λ n. 1 ≤ count eqb n v.files) first (omega arith);
}

pub ends : (asked ticket at : ℕ) (d : Drawn) (w : View) → DrewLocal 5 reads read_leaves (read_asked asked ticket at) d w → HoldsAll one_file w
ends asked ticket at (drew.Ticket n) w is = subst (HoldsAll one_file) (sym is.4) (has_all (drawn n reads read_leaves (looked (word_of n is.0) (read_asked asked ticket at))) _ _ _ _ refl refl refl refl refl)
ends asked ticket at (drew.Expired now) w is = subst (HoldsAll one_file) (sym is.4) (has_all (looked (word_of is.0 now) (read_asked asked ticket at)) _ _ _ _ refl refl refl refl refl)
ends asked ticket at (drew.Lost found) w is = subst (HoldsAll one_file) (sym is.4) (has_all (looked (word_at is.0) (read_asked asked ticket at)) _ _ _ _ refl refl refl refl refl)
