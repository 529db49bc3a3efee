-- A client asks: its hand is marked, and its part is split off.
use Rattle.std.proofs.Common.{◌≡◌, ℕ, ◌<◌, true, false, eqb, eq-eqb, cond, List, [], ◌∷◌, length, Some, None, sym, refl, ap, ◌∙◌, subst, inl}
use Rattle.std.specs.Prelude.{if◌then◌else◌}
use Rattle.ufs_client.specs.Own.{is_own}
use Rattle.ufs_joint.specs.Cells.{Start, View, given_of, kept_of}
use Rattle.ufs_joint.specs.Marks.{asking}
use Rattle.ufs_joint.specs.Rule.{IsEvent}
use Rattle.ufs_model.specs.Asks.{IsAsk}
use Rattle.ufs_model.specs.Bounds.{IsBounded}
use Rattle.ufs_model.specs.PosixTree.{PosixTree}
use Rattle.ufs_model.specs.declared.data.Ask.{Ask}
use Rattle.ufs_model.specs.declared.data.Lease.{Lease}
use Rattle.ufs_model.specs.declared.data.Op.{Op}
use Rattle.ufs_model.specs.declared.data.PartName.TheVariants.{Client}
use Rattle.ufs_hand_laws.specs.Marks.{asked_by, asking_asked, asking_client}
use Rattle.ufs_hand_laws.specs.Owned.{Has, each, only, without}
use Rattle.ufs_hand_laws.specs.Parts.{AskedPart, ClientPart}
use Rattle.ufs_msg.specs.Requests.{HasClientAlone, IsAsked}
use Rattle.ufs_msg.specs.There.{IsClientThere}
use Rattle.ufs_caller.specs.Hands.{HasAskedAlone, HasBoth, IsAskFor, IsLeft, asked_view, self_in}

module _ (c : ℕ) (self : ClientPart) (before : AskedPart) (v : View) (b : HasBoth c self before v) where
  here : eqb c c ≡ true
  here = eq-eqb c c refl

  pub self_is : self_in v.clients ≡ self
  self_is = ap self_in b.clients

  -- ---- marked

  pub may_ask : (k : Start) (r : Op) → self.asked ≡ None → length self.entries < 65536 → IsEvent k v (asked_view c r v)
  may_ask k r idle few = inl (record {
    client = c;
    request = r;
    may = record {
      self = self;
      has_self = subst (Has {A = ℕ × ClientPart} (c, self)) (sym b.clients) (inl refl);
      before = before;
      has_before = subst (Has {A = ℕ × AskedPart} (c, before)) (sym b.asked) (inl refl);
      idle = idle;
      room = few;
    };
    is = λ i tickets. asking tickets c r (self_is i) v;
  })

  pub asks : (r : Op) (n : ℕ) → IsLeft c r self (asked_view c r v n)
  asks r n = record {
    before = asked_by n r self.copies self;
    both = record {
      clients = (λ i. each (asking_client c r (self_is i).copies) (b.clients i)) ∙ ap (λ d. (c, (if d then (record self { copies = self.copies; asked = Some r }) else self)) ∷ []) here;
      asked = (λ i. each (asking_asked c (asked_by n r (self_is i).copies (self_is i))) (b.asked i)) ∙ ap (λ d. (c, (if d then asked_by n r self.copies self else before)) ∷ []) here;
      files = b.files;
      pools = b.pools;
      names = b.names;
      store = b.store;
    };
    entries = refl;
    fds = refl;
    asked = refl;
    late = refl;
  }

  -- ---- split

  pub asked_left : HasAskedAlone c before (kept_of (Client c) v)
  asked_left = record {
    clients = ap (without (eqb c)) b.clients ∙ ap (λ d. cond d [] ((c, self) ∷ [])) here;
    asked = ap (without (λ _. false)) b.asked;
    files = ap (without (λ _. false)) b.files;
    pools = ap (without (λ _. false)) b.pools;
    names = ap (without (λ _. false)) b.names;
    store = ap (without (λ _. false)) b.store;
  }

  pub client_given : HasClientAlone c self (given_of (Client c) v)
  client_given = record {
    clients = ap (only (eqb c)) b.clients ∙ ap (λ d. cond d ((c, self) ∷ []) []) here;
    asked = ap (only (λ _. false)) b.asked;
    files = ap (only (λ _. false)) b.files;
    pools = ap (only (λ _. false)) b.pools;
    names = ap (only (λ _. false)) b.names;
    store = ap (only (λ _. false)) b.store;
  }

no_copy : (xs : List Lease) (l : Lease) → xs ≡ [] → Has l xs → ⊥
no_copy [] l e h = h
no_copy (x ∷ xs) l e h = absurd (clash e)
  where
    clash : x ∷ xs ≡ [] → ⊥
    clash e' = cc

-- a client that has no copy of a lease has none to give back
pub is_asked : (k : Start) (ask : Ask) (self : ClientPart) (v : View) → IsClientThere k ask.client → ask.client < 16 → ask.seq < 65536 → IsBounded ask.op → IsAskFor ask self → self.copies ≡ [] → ((t : PosixTree) → IsAsk t ask → is_own t ask.client ask.op ≡ false) → HasClientAlone ask.client (record self { asked = Some ask.op }) v → IsAsked k ask v
is_asked k ask self v there low few bounded f none needs alone = record {
  there = there;
  self = record self { asked = Some ask.op };
  alone = alone;
  low = low;
  seq = f.seq;
  few = few;
  bounded = bounded;
  asked = refl;
  desc = f.desc;
  told = f.told;
  needs = λ t same. needs t (f.told t same);
  dropped = λ l h r. no_copy self.copies l none h;
  unleased = none;
}
