-- What becomes of notes at a change, and for want of what they are lost.
use Rattle.std.proofs.Common.{◌≡◌, ◌⊎◌, inl, inr, List, ◌++◌, Option, Some, None, ap, sym, refl, ◌∙◌, subst, arith, append_assoc}
use Rattle.std.specs.Prelude.{Result, Ok, Err, OnOk, OnErr, IfErr}
use Rattle.ufs_base.specs.declared.lack.Lack.{Lack}
use Rattle.ufs_base.specs.declared.lack.Lack.TheVariants.{Memory, AtEnd, Unsound, Told}
use Rattle.ufs_layout.specs.Filled.{sector_count_of}
use Rattle.ufs_layout.specs.declared.records.LogRecord.{LogRecord}
use Rattle.ufs_ilog.specs.Notes.{IsLackFor, IsLostFor, IsNotedOn, IsNotedWhole}
use Rattle.ufs_ilog.proofs.FillingLemmas.{count_more}
use Rattle.ufs_name_tree.specs.NameTable.{NameTable}
use Rattle.ufs_name_tree.specs.Notes.{IsLostAt}

-- the records stand behind what was noted, or all of it is lost at them
abbrev pub TellsOrLoses : NameTable → NameTable → List LogRecord → Type 0
TellsOrLoses old new records = IsLostAt old new records ⊎ (IsNotedOn old.noted new.noted records × (new.lost ≡ old.lost))

-- so it is behind a call that notes them, where it is kept for want of what they are lost
pub tells_or_loses : {T : Type 0} (old new : NameTable) (records : List LogRecord) (result : Result T Lack) → OnOk result (IsNotedWhole old.noted new.noted records) → IfErr result (IsLostFor old.noted records) → OnErr result (new.noted ≡ None)
    → OnOk result (new.lost ≡ old.lost) → IfErr result (λ lack. new.lost ≡ Some lack) → TellsOrLoses old new records
tells_or_loses old new records (Ok done) whole lack none kept lost = by old.noted refl whole
  where
    by : (was : Option (List LogRecord)) → old.noted ≡ was → IsNotedWhole was new.noted records → TellsOrLoses old new records
    by None e gone = inl (record { none = gone; cause = λ before some. (let no = sym e ∙ some in absurd cc); unlost = λ off. kept })
    by (Some before) e on = inr (record { before = before; was = e; is = on }, kept)
tells_or_loses old new records (Err w) whole lack none kept lost = by old.noted refl lack
  where
    by : (was : Option (List LogRecord)) → old.noted ≡ was → IsLostFor was records w → TellsOrLoses old new records
    by None e wants = absurd wants
    by (Some before) e wants = inl (record {
      none = none;
      cause = λ other some.
          let same : before ≡ other = (let both : Some before ≡ Some other = sym e ∙ some in cc) in
          (w, lost, subst (λ (rs : List LogRecord). IsLackFor rs records w) same wants);
      unlost = λ off. (let no = sym e ∙ off in absurd cc);
    })

-- what is wanting for some records is wanting for more
pub lack_more : (before records more : List LogRecord) (w : Lack) → IsLackFor before records w → IsLackFor before (records ++ more) w
lack_more before records more (Memory refused) wants = tt
lack_more before records more AtEnd wants =
    let same : sector_count_of ((before ++ records) ++ more) ≡ sector_count_of (before ++ (records ++ more)) = ap sector_count_of (append_assoc before records more) in
    omega (arith, same, count_more (before ++ records) more, wants)
lack_more before records more Unsound wants = absurd wants
lack_more before records more Told wants = absurd wants

-- and what is wanting for records behind others is wanting for both
pub lack_later : (before records more : List LogRecord) (w : Lack) → IsLackFor (before ++ records) more w → IsLackFor before (records ++ more) w
lack_later before records more (Memory refused) wants = tt
lack_later before records more AtEnd wants =
    let same : sector_count_of ((before ++ records) ++ more) ≡ sector_count_of (before ++ (records ++ more)) = ap sector_count_of (append_assoc before records more) in
    omega (arith, same, wants)
lack_later before records more Unsound wants = absurd wants
lack_later before records more Told wants = absurd wants
