use Rattle.std.proofs.Common.{◌≡◌, ℕ, ◌<◌, ◌+◌, List, [], ◌∷◌, ◌++◌, length, take, get_or, refl, ap, sym, ◌∙◌}
use Rattle.std.specs.Prelude.{flat_map, map}
use Rattle.std.proofs.lemmas.Grind.{flat_map-append}
use Rattle.std.proofs.lemmas.List.{append-nil, map-append, take_more}
use Rattle.ufs_image.specs.Journal.{PlacedRecord, FoundSector, records_in}
use Rattle.ufs_layout.specs.declared.records.LogRecord.{LogRecord}
use Rattle.ufs_scan.specs.Gathered.{placed_in}
use Rattle.ufs_scan.proofs.gathered.copy_records.Goals as goal

-- records without their places
without : (s : ℕ) (rs : List LogRecord) → map {A = PlacedRecord} {B = LogRecord} (λ p. p.1) (map {B = PlacedRecord} (λ r. (s, r)) rs) ≡ rs
without s [] = refl
without s (r ∷ rs) = ap (λ (l : List LogRecord). r ∷ l) (without s rs)

more : {X : Type 0} (now : X → FoundSector) (xs : List X) (i : ℕ) (x : X) → i < length xs → x ≡ get_or xs i x
    → map {A = PlacedRecord} {B = LogRecord} (λ p. p.1) (flat_map (λ b. placed_in (now b)) (take (i + 1) xs)) ≡ map {A = PlacedRecord} {B = LogRecord} (λ p. p.1) (flat_map (λ b. placed_in (now b)) (take i xs)) ++ records_in (now x).1.content
more {X} now xs i x lt is =
    let F : X → List PlacedRecord = λ b. placed_in (now b) in
    ap (λ l. map {A = PlacedRecord} {B = LogRecord} (λ p. p.1) (flat_map F l)) (take_more xs i x lt ∙ ap (λ y. take i xs ++ y ∷ []) (sym is))
    ∙ ap (map {A = PlacedRecord} {B = LogRecord} (λ p. p.1)) (flat_map-append F (take i xs) (x ∷ []))
    ∙ map-append {A = PlacedRecord} {B = LogRecord} (λ p. p.1) (flat_map F (take i xs)) (flat_map F (x ∷ []))
    ∙ ap (λ (l : List LogRecord). map {A = PlacedRecord} {B = LogRecord} (λ p. p.1) (flat_map F (take i xs)) ++ l) (ap (map {A = PlacedRecord} {B = LogRecord} (λ p. p.1)) (append-nil (placed_in (now x))) ∙ without (now x).0 (records_in (now x).1.content))

pub loop-one-preserved : goal.loop-one-preserved
loop-one-preserved c =
    c.in_ok-copy_sector.ensures ∙ ap (λ (l : List LogRecord). l ++ records_in c.one-item.result.now.1.content) c.loop-one.invariant
    ∙ sym (more (λ b. b.now) c.args.sectors.now c.loop-one.one-index c.one-item.result c.loop-one-test.true c.one-item.is)
