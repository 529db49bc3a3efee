-- An event without an entry keeps the rule.
use Rattle.std.proofs.Common.{ℕ, sym, subst, ⊎_elim}
use Rattle.atomic_table.specs.Table.{Me, Allows}
use Rattle.ufs_model.specs.Laws.{KeepsTrees}
use Rattle.ufs_hand_laws.specs.ByImages.{by_images}
use Rattle.ufs_hand_laws.specs.Marks.{MayRemake}
use Rattle.ufs_hand_laws.specs.Parts.{Start, View}
use Rattle.ufs_hand_laws.specs.Rule.{IsRuled, Marked}
use Rattle.ufs_hand_laws.proofs.Ruling.{ask_keeps, give_back_keeps, grant_keeps, mark_keeps}
use Rattle.ufs_hand.specs.Session.{AsksRequest, GivesLeasesBack, GrantsLease, IsEvent}

pub event_keeps : KeepsTrees → (k : Start) (slots i : ℕ) (w : ℕ → View) (me : Me (Unit {0}) View) → IsEvent k me.0 w → Allows (IsRuled by_images k) slots i me 0 (λ n. n) (Marked k w me)
event_keeps keeps k slots i w me e = ⊎_elim
    (λ (a : AsksRequest me.0 w). subst (λ (u : ℕ → View). Allows (IsRuled by_images k) slots i me 0 (λ n. n) (Marked k u me)) (sym a.is) (ask_keeps by_images k slots i a.client a.request me a.may))
    (⊎_elim
    (⊎_elim
    (λ (a : GrantsLease me.0 w). subst (λ (u : ℕ → View). Allows (IsRuled by_images k) slots i me 0 (λ n. n) (Marked k u me)) (sym a.is) (grant_keeps by_images k slots i a.lease me a.may))
    (λ (a : GivesLeasesBack me.0 w). subst (λ (u : ℕ → View). Allows (IsRuled by_images k) slots i me 0 (λ n. n) (Marked k u me)) (sym a.is) (give_back_keeps by_images k slots i a.part a.client me a.may)))
    (λ (m : (tickets : ℕ) → MayRemake by_images k tickets me.0 (w tickets)). mark_keeps by_images k keeps slots i w me m)) e
