use Rattle.std.proofs.Common.{◌≡◌, ℕ, Option, None, Some, ap, ◌∙◌, arith}
use Rattle.std.specs.FinMap as fin
use Rattle.std.specs.Ordering.{nat_cmp}
use Rattle.ufs_primary.specs.OfHome.{HomeState}
use Rattle.ufs_primary.specs.OfHome.{Places, file_here, in_place, with_place}
use Rattle.ufs_primary.proofs.OfHome.{placed_there}
use Rattle.ufs_joint.specs.Cells.{FileCell}
use Rattle.ufs_msg.proofs.Places.{at_place}
use Rattle.ufs_primary.specs.OfNoted.{KnownFile}
use Rattle.ufs_rounds.proofs.Dealt.{none_here_still, placed_at, still_empty}
use Rattle.ufs_rounds.proofs.Places.{below_all, below_next}
use Rattle.ufs_rounds.proofs.room.make_places.Goals as goal

pub loop-known-init : goal.loop-known-init
loop-known-init g c =
    let made = c.in_ok-home.ensures in
    record {
      places = λ i k low at. absurd (omega (arith, low));
      empty = λ f. ap (λ (h : HomeState). file_here h.places f) made ∙ ap in_place (fin.get-empty {X = Option FileCell} nat_cmp f);
      owners = ap (λ (h : HomeState). h.owners) made;
    }

pub loop-known-preserved : goal.loop-known-preserved
loop-known-preserved g c =
    let l = c.loop-known in
    let p : Places = l.home.places in
    let known : KnownFile = c.known-item.result in
    let file : c.file.result ≡ known.hand.file = c.file.ensures in
    let made = c.in_ok-make_place.ensures.ok ∙ ap (λ (f : ℕ). record l.home { places = with_place p f }) file in
    let now = ap (λ (h : HomeState). h.places) made in
    record {
      places = below_next (λ (k : KnownFile). fin.get c.make_place.new.self.places k.hand.file ≡ Some None) c.args.files.now l.known-index known
          (λ i k low at. ap (λ (q : Places). fin.get q k.hand.file) now ∙ still_empty p known.hand.file k.hand.file (l.invariant.places i k low at))
          (at_place c.args.files.now l.known-index known (omega arith) c.known-item.is)
          (ap (λ (q : Places). fin.get q known.hand.file) now ∙ placed_there p known.hand.file (l.invariant.empty known.hand.file));
      empty = λ f. ap (λ (q : Places). file_here q f) now ∙ none_here_still p known.hand.file l.invariant.empty f;
      owners = ap (λ (h : HomeState). h.owners) made ∙ l.invariant.owners;
    }

pub returns-clause-places : goal.returns-clause-places
returns-clause-places g c k has =
    let l = c.loop-known in
    let at = placed_at c.args.files.now k has in
    below_all (λ (x : KnownFile). fin.get l.home.places x.hand.file ≡ Some None) c.args.files.now l.known-index c.loop-known-test.false l.invariant.places at.0 k at.1

pub returns-clause-owners : goal.returns-clause-owners
returns-clause-owners g c = c.loop-known.invariant.owners
