-- A request under way is sent on.
use Rattle.std.proofs.Common.{◌≡◌, ℕ, ◌+◌, ◌≤◌, true, List, length, Option, Some, None, is_some, sym, ap, ◌∙◌, subst}
use Rattle.ufs_fds.specs.Descriptors.{Descs}
use Rattle.ufs_hints.specs.Hints.{Pairs}
use Rattle.ufs_joint.specs.Cells.{Start, View}
use Rattle.ufs_model.specs.declared.data.Actor.{Actor}
use Rattle.ufs_model.specs.declared.data.Entry.{Entry}
use Rattle.ufs_model.specs.declared.data.Op.{Op}
use Rattle.ufs_msg.specs.Answers.{Sent}
use Rattle.ufs_msg.specs.Requests.{Asked}
use Rattle.ufs_msg.specs.There.{IsServerThere, MayServe}
use Rattle.ufs_hand_laws.specs.Owned.{one}
use Rattle.ufs_caller.specs.Callers.{Caller, Errand, IsAskBy, entries_in, file_asked}
use Rattle.ufs_caller.specs.Hands.{HasAskedAlone, IsAway, IsStillAsked, request_in, tickets_in}
use Rattle.ufs_caller.specs.Lists.{IsListed}
use Rattle.ufs_caller.specs.Tied.{IsPlaceTied, IsTied, IsTripTied, MayGo, errand_of, seen_of}
use Rattle.ufs_caller.specs.Turns.{AreRenewed, HasSent, SendsOn}
use Rattle.ufs_caller.specs.declared.told.Told.{Told}
use Rattle.ufs_caller.specs.declared.trip.Trip.{Trip}
use Rattle.ufs_caller.proofs.Homes.{entries_many, own_same}
use Rattle.ufs_caller.proofs.Made.{listed_there}
use Rattle.ufs_caller.proofs.Places.{request_is, some_same}
use Rattle.ufs_caller.proofs.Servers.{some_renewed}
use Rattle.ufs_caller.proofs.Tries.{errand_at, seen}

-- what a client is while a request is under way
module _ (k : Start) (number : ℕ) (told : List Told) (table : Descs) (left : List Op) (hand : View) (kept : Option Asked) (o : Option Trip) (hints : Pairs) (room : ℕ) (tied : IsTied k number told table left hand kept o hints room) (trip : Trip) (is : o ≡ Some trip) where
  pub place : IsTripTied k number told table hand kept trip
  place = subst (IsPlaceTied k number told table hand kept) is tied.place

  pub asked_is : request_in hand.asked ≡ place.request
  asked_is = request_is number told table place.request hand place.away

  pub tickets_are : tickets_in hand.asked ≡ place.away.before.tickets
  tickets_are = ap tickets_in place.away.alone.asked

  -- and its errand, by what contracts see of it
  module _ (a : Caller) (view : seen number told table left hand kept o hints ≡ a) (sent : HasSent a) where
    pub errand_now : a.errand ≡ Some (errand_at hand kept trip)
    errand_now = sym (ap (λ (c : Caller). c.errand) view) ∙ ap (errand_of hand kept) is

    pub not_kept : kept ≡ None
    not_kept = ap (λ (e : Errand). e.kept) (some_same (errand_at hand kept trip) sent.0 (sym errand_now ∙ sent.1)) ∙ sent.2

    pub seen_now : a.seen ≡ tickets_in hand.asked
    seen_now = sym (ap (λ (c : Caller). c.seen) view) ∙ ap (seen_of hand) is

    -- ---- sent on

    module _ (x : Sent) (mine : x.request.ask.client ≡ number) (there : IsServerThere k x.to) (may : MayServe x.to x.request.ask) (still : IsStillAsked place.away.before x.request.ask)
        (hand' : View) (alone : HasAskedAlone number place.away.before hand') (r : Asked) (same : r.ask ≡ x.request.ask) (hints' : Pairs) (renewed : AreRenewed trip.file x.to hints hints')
        (trip' : Trip) (to' : trip'.to ≡ x.to) (via' : IsListed trip.via trip.to trip'.via) (file' : trip'.file ≡ trip.file) (again' : trip'.is_again ≡ true) where
      op_is : x.request.ask.op ≡ place.request
      op_is = some_same x.request.ask.op place.request (sym still.asked ∙ place.away.asked)

      -- what came back is what was asked
      by_it : IsAskBy number (length told) table place.request x.request.ask
      by_it = record {
        client = mine;
        seq_is = still.seq ∙ ap (length {A = Entry}) place.away.entries_are ∙ entries_many told;
        asked = op_is;
        desc = still.desc ∙ own_same place.away.before.fds table place.away.same _ ∙ ap (λ (q : Op). Rattle.ufs_joint.specs.FileHands.own_desc table (Rattle.ufs_model.specs.Asks.fd_named q)) op_is;
        told = λ t are. still.told t (λ fd. place.away.same fd ∙ sym (are fd) ∙ ap (λ (c : ℕ). Rattle.ufs_model.specs.PosixTree.desc_at t c fd) (sym mine));
      }

      by_r : IsAskBy number (length told) table place.request r.ask
      by_r = subst (IsAskBy number (length told) table place.request) (sym same) by_it

      may_r : MayServe x.to r.ask
      may_r = subst (MayServe x.to) (sym same) may

      away : IsAway number (entries_in told) table place.request hand'
      away = record { before = place.away.before; alone = alone; entries_are = place.away.entries_are; same = place.away.same; asked = place.away.asked }

      pub tied_on : IsTied k number told table left hand' (Some r) (Some trip') hints' room
      tied_on = record {
        low = tied.low;
        there = tied.there;
        closed = tied.closed;
        ranged = tied.ranged;
        place = record {
          request = place.request;
          away = away;
          there = subst (IsServerThere k) (sym to') there;
          via = listed_there k trip.via trip'.via trip.to via' place.via place.there;
          file = file' ∙ place.file;
          kept_may = λ y e. subst (MayGo number (length told) table place.request trip'.to) (some_same r y e) (record { ask = by_r; may = subst (λ (s : Actor). MayServe s r.ask) (sym to') may_r });
        };
        servers = some_renewed k hints tied.servers trip.file x.to hints' there renewed;
        made = tied.made;
        bounded = tied.bounded;
        few = subst (λ (t : Option Trip). length told + (one (is_some t) + length left) ≤ 65536) is tied.few;
        room_is = subst (λ (t : Option Trip). length told + (one (is_some t) + length left) ≤ room) is tied.room_is;
      }

      request_now : request_in hand'.asked ≡ request_in hand.asked
      request_now = request_is number told table place.request hand' away ∙ sym asked_is

      pub sends_on : SendsOn x r (Some r) a (seen number told table left hand' (Some r) (Some trip') hints')
      sends_on = record {
        e = errand_at hand kept trip;
        errand = errand_now;
        sent = not_kept;
        same = same;
        ask = subst (λ (c : Caller). IsAskBy c.number (length c.told) c.fds (request_in hand.asked) r.ask) view (subst (λ (q : Op). IsAskBy number (length told) table q r.ask) (sym asked_is) by_r);
        may = may_r;
        via = trip'.via;
        listed = via';
        errand' = λ i. Some (record { request = request_now i; to = to' i; via = trip'.via; kept = Some r; is_again = again' i });
        hints = subst (λ (h : Pairs). AreRenewed (file_asked a.fds (request_in hand.asked)) x.to h hints') (ap (λ (c : Caller). c.hints) view)
            (subst (λ (f : Option ℕ). AreRenewed f x.to hints hints') (place.file ∙ (λ i. file_asked (view i).fds (sym asked_is i))) renewed);
        seen = ap tickets_in alone.asked ∙ sym tickets_are ∙ sym seen_now;
        told = ap (λ (c : Caller). c.told) view;
        left = ap (λ (c : Caller). c.left) view;
        fds = ap (λ (c : Caller). c.fds) view;
      }
