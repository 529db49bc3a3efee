-- A guest that had the names for an answer has it, and the names are back.
use Rattle.std.proofs.Common.{◌≡◌, ◌≤◌, ◌++◌, ℕ, cond, eqb, Bool, List, [], ◌∷◌, sym, refl, ap, ◌∙◌, subst, arith}
use Rattle.std.proofs.lemmas.List.{append-nil}
use Rattle.ufs_bitmap.specs.Blocks.{BlockSet}
use Rattle.ufs_file.specs.Hand.{IsEntryOf}
use Rattle.ufs_model.specs.declared.data.Actor.{Actor}
use Rattle.ufs_model.specs.declared.data.Ask.{Ask}
use Rattle.ufs_model.specs.declared.data.Entry.{Entry}
use Rattle.ufs_model.specs.declared.data.PartName.TheVariants.{Names}
use Rattle.ufs_model.specs.declared.data.Reply.{Reply}
use Rattle.ufs_hand_laws.specs.Draws.{client_after, left_faults}
use Rattle.ufs_hand_laws.specs.Owned.{each}
use Rattle.ufs_hand_laws.specs.Parts.{ClientPart}
use Rattle.ufs_hand_laws.proofs.Keys.{itself}
use Rattle.ufs_joint.specs.Cells.{NamesCell, View, both_of, given_of, kept_of}
use Rattle.ufs_turns.proofs.Hands.{later_left}
use Rattle.ufs_held.specs.Asking.{IsGuest}
use Rattle.ufs_held.specs.Drawn.{first_fds, fresh_of}
use Rattle.ufs_held.specs.Together.{HasDrawnStill}
use Rattle.ufs_held.proofs.Excusing.{stop_joined, used_by}
use Rattle.ufs_noted.specs.Noted.{Noted}
use Rattle.ufs_held_names.specs.Dirs.{IsAnsweredBy, IsNamesGuest, answered}
use Rattle.ufs_held_names.specs.HeldNames.{HoldsNames, first_names}
use Rattle.ufs_held_names.proofs.After.{first_held}
use Rattle.ufs_held_names.proofs.Answering.{guest_left, joined_guest, names_in}
use Rattle.ufs_held_names.proofs.Committed.{back_held, back_names}

drawn_all : (client : ℕ) (part : ClientPart) (cell : NamesCell) (n : ℕ) (pool : BlockSet) (v z : View) (e : Entry) → IsNamesGuest client part cell n pool v → e.client ≡ client → HasDrawnStill e.ticket (fresh_of e) v z → IsNamesGuest client (answered part e) cell n pool z
drawn_all client part cell n pool v z e has of_client drew = record {
  clients =
      drew.clients
      ∙ (λ i. each (client_after e (first_fds (has.clients i))) (has.clients i))
      ∙ ap (λ (b : Bool). (client, cond b (answered part e) part) ∷ []) (ap (λ (c : ℕ). eqb c client) of_client ∙ itself client);
  asked = drew.asked ∙ has.asked;
  files = drew.files ∙ has.files;
  pools = drew.pools ∙ has.pools;
  names = drew.names ∙ has.names;
  store = drew.store ∙ has.store;
}

-- What the names' hand and the guest have then.
pub record HaveAnswered (x : Noted) (own back : View) (r : Reply) (ask : Ask) (by : Actor) (e : Entry) (guest left : View) : Type 0 where
  pub held : HoldsNames x back
  pub calm : back.faults ≡ []
  pub same : first_names x back.names ≡ first_names x own.names
  pub answered_by : IsAnsweredBy r ask by e guest left

pub have_answered : (own guest : View) (x : Noted) → HoldsNames x own → own.faults ≡ [] → (ask : Ask) (by : Actor) (r : Reply) (e : Entry) → IsEntryOf ask by e.ticket e → e.reply ≡ r → (part : ClientPart) (n : ℕ) (pool : BlockSet) → IsGuest ask.client part n pool guest
    → (z : View) → HasDrawnStill e.ticket (fresh_of e) (both_of guest (given_of Names own)) z → HaveAnswered x own (both_of (kept_of Names own) (given_of Names z)) r ask by e guest (kept_of Names z)
have_answered own guest x held calm ask by r e entry replied part n pool came z drew =
    let has = drawn_all ask.client part held.cell n pool (both_of guest (given_of Names own)) z e (joined_guest own guest x held ask.client part n pool came) entry.client drew in
    let there = names_in ask.client (answered part e) held.cell n pool z has in
    let faults = drew.faults ∙ (λ i. left_faults (replied i) (append-nil guest.faults i)) in
    record {
      held = back_held own z x held held.cell there x held.value;
      calm = ap (λ (fs : List ℕ). fs ++ []) calm;
      same = ap (first_names x) (back_names own z x held held.cell there) ∙ sym (first_held x own held);
      answered_by = record {
        entry = entry;
        replied = replied;
        guest = λ p m s here. guest_left ask.client (answered p e) held.cell m s z (drawn_all ask.client p held.cell m s (both_of guest (given_of Names own)) z e (joined_guest own guest x held ask.client p m s here) entry.client drew);
        done = λ is. faults ∙ ap (λ (q : Reply). left_faults q guest.faults) is;
        used = λ q rest is told. faults ∙ (λ i. left_faults (is i) (told i)) ∙ used_by q rest;
        stop = λ fault is. drew.stop fault (stop_joined guest.stop own.stop fault is);
        later = let l = later_left guest.seen own.seen in let m = drew.later in omega (arith, l, m);
        seen = drew.seen;
      };
    }
