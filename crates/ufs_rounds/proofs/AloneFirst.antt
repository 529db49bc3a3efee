-- A session without a worker, at its beginning: the primary serves alone.
use Rattle.std.proofs.Common.{◌≡◌, ℕ, zero, suc, ◌≤◌, length, List, [], ◌∷◌, None, Option, Some, IfSome, replicate, slice_get, ap, sym, ◌∙◌, subst, arith}
use Rattle.std.proofs.lemmas.List.{length-replicate}
use Rattle.circular_buffer.specs.Buffer.{Buffer}
use Rattle.ufs_caller.specs.Callers.{Caller, Errand}
use Rattle.ufs_caller.specs.Tied.{AreServersThere}
use Rattle.ufs_hand_laws.specs.Owned.{Has}
use Rattle.ufs_joint.specs.Cells.{Start}
use Rattle.ufs_model.specs.declared.data.Actor.TheVariants as actor
use Rattle.ufs_msg.specs.Plain.{empty}
use Rattle.ufs_msg.specs.Requests.{Asked}
use Rattle.ufs_msg.specs.There.{client_count, worker_count}
use Rattle.ufs_msg.specs.declared.answer.Answer.{Answer}
use Rattle.ufs_rounds.specs.Alone.{HasNothingOut, ServesAlone, asked_by, gone_of}
use Rattle.ufs_rounds.specs.Dealing.{HaveAskedNothing, HoldNothing}
use Rattle.ufs_rounds.specs.Numbers.{AreClients}
use Rattle.ufs_rounds.specs.Scripts.{script_of, scripts_of}
use Rattle.ufs_rounds.specs.Turns.{GlobalState}
use Rattle.ufs_rounds.proofs.Together.{length_map}

-- each of so many is the same
each_same : {A : Type 0} (n : ℕ) (x y : A) (i : ℕ) → slice_get (replicate n x) i ≡ Some y → y ≡ x
each_same zero x y i at = absurd (clash at)
  where
    clash : None ≡ Some y → ⊥
    clash e = cc
each_same (suc n) x y zero at = same
  where
    same : y ≡ x
    same = (let e = at in cc)
each_same (suc n) x y (suc i) at = each_same n x y i at

pub asks_nothing : (clients : List Caller) → HaveAskedNothing clients → (place : ℕ) (c : Caller) → slice_get clients place ≡ Some c → (c.errand ≡ None) × (c.hints ≡ [])
asks_nothing [] nothing place c at = absurd (clash at)
  where
    clash : None ≡ Some c → ⊥
    clash e = cc
asks_nothing (d ∷ clients) nothing zero c at = subst (λ (x : Caller). (x.errand ≡ None) × (x.hints ≡ [])) same (nothing.0.1, nothing.0.2)
  where
    same : d ≡ c
    same = (let e = at in cc)
asks_nothing (d ∷ clients) nothing (suc place) c at = asks_nothing clients nothing.1 place c at

module _ {N : Type 0} (k : Start) (s : GlobalState N) (count : ℕ) where
  pub alone_at_first : s.workers ≡ [] → worker_count k ≡ 0 → length (scripts_of s.clients) ≡ count → length s.clients ≡ client_count k → length s.clients ≤ 16 → AreClients s.clients → HaveAskedNothing s.clients → HasNothingOut s.primary
      → HoldNothing 0 count s.rings.requests s.rings.answers s.rings.letters → ServesAlone k s
  alone_at_first no_worker none scripts every few numbers nothing out hold = record {
    no_worker = no_worker;
    none_there = none;
    all_there = every;
    few = few;
    numbers = numbers;
    ask = λ place c at.
        let n = asks_nothing s.clients nothing place c at in
        record {
          hints = subst (AreServersThere k) (sym n.1) (λ file server has. absurd (let within = has.1 in omega arith));
          errand = subst (λ (o : Option Errand). IfSome o (λ e. (e.to ≡ actor.Primary) × IfSome e.kept (λ r. r.ask.client ≡ c.number))) (sym n.0) tt;
        };
    nothing_out = out;
    rings = record {
      no_letter = λ i. (hold.no_letter.primary i).items;
      no_ring = hold.no_request.others;
      room = λ i. (hold.no_request.primary i).capacity;
      fit = subst (λ (b : Buffer Asked). length b.items ≤ 16) (sym hold.no_request.primary) (omega arith);
      rooms = λ client ring at. ap (λ (b : Buffer (Answer N)). b.capacity) (ring_is client ring at);
      answered = λ client ring x at has. absurd (subst (λ (b : Buffer (Answer N)). Has x b.items) (ring_is client ring at) has);
    };
    each = ap length hold.no_answer ∙ length-replicate count (empty 1) ∙ sym scripts ∙ length_map script_of s.clients;
    once = λ place c ring at there.
        let n = asks_nothing s.clients nothing place c at in
        let none = ap (λ (b : Buffer Asked). asked_by place b.items) hold.no_request.primary in
        let empty = ap (λ (b : Buffer (Answer N)). length b.items) (ring_is place ring there) in
        let gone = ap gone_of n.0 in
        omega (arith, none, empty, gone);
  }
    where
      ring_is : (client : ℕ) (ring : Buffer (Answer N)) → slice_get s.rings.answers client ≡ Some ring → ring ≡ empty 1
      ring_is client ring at = each_same count (empty 1) ring client (ap (λ (l : List (Buffer (Answer N))). slice_get l client) (sym hold.no_answer) ∙ at)
