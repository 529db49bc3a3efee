-- What the endings of `audit` tell.
use Rattle.std.proofs.Common.{◌≡◌, ◌≤◌, ◌⊎◌, inl, inr, ℕ, List, Result, Ok, Err, ap, sym, subst, refl, ◌∙◌, arith}
use Rattle.std.specs.Prelude.{IsTrue}
use Rattle.std.specs.FinMap.{get-empty}
use Rattle.std.specs.Io.KnownBytes.{Appends}
use Rattle.ufs_audit.specs.Sources.{HasBrokenScript, HasLongText, HasVerdict}
use Rattle.ufs_audit.specs.declared.fault.AuditFault.{AuditFault}
use Rattle.ufs_audit.specs.declared.fault.AuditFault.TheVariants as audit_fault
use Rattle.ufs_audit.specs.declared.verdict.Verdict.{Verdict}
use Rattle.ufs_audit.specs.declared.verdict.Verdict.TheVariants as verdict
use Rattle.ufs_audit.specs.declared.verdict.Wrong.{Wrong}
use Rattle.ufs_base.specs.Faults.{raised}
use Rattle.ufs_metadata.specs.Faults.{HasFaultCause}
use Rattle.ufs_metadata.specs.declared.fault.RecoverFault.{RecoverFault}
use Rattle.ufs_metadata.specs.declared.fault.RecoverFault.TheVariants as recover
use Rattle.ufs_image.specs.Opens.{ImageTree, opens}
use Rattle.ufs_image.specs.Volume.{Refusal}
use Rattle.ufs_image.specs.Volume as image
use Rattle.ufs_image_paths.specs.Opened.{IsTreeOf}
use Rattle.ufs_model.specs.Order.{fd_cmp}
use Rattle.ufs_model.specs.PosixTree.{PosixTree}
use Rattle.ufs_model.specs.Start.{PathNodes, start_of}
use Rattle.ufs_opening.specs.Told.{TellsWhy}
use Rattle.ufs_script.specs.Script.{IsOutside}
use Rattle.ufs_script.specs.declared.fault.ScriptFault.{ScriptFault}
use Rattle.ufs_command.specs.declared.ending.Ending.{Ending}
use Rattle.ufs_command.specs.declared.ending.Ending.TheVariants.{Done, Usage, BadGeometry, NotBuilt, BadScript, TooSmall, NoTree, DeviceFault, OutOfMemory, SourceFault, Damaged, Illegal}
use Rattle.ufs_command.specs.Audits.{EndsAudit, EndsAudited, EndsUnopened, IsAuditStart, TellsBreak, TellsLongText, TellsNoVerdict, verdict_ending, verdict_line}
use Rattle.ufs_command.specs.Endings.{IsAnswer, TellsNoTree, ending_of, line_of, sink_status, status_of}
use Rattle.ufs_command.specs.Seen.{Formatting, Reading, Writing}
use Rattle.ufs_command.specs.Texts.{device_line, illegal_line, legal_line}
use Rattle.ufs_command.specs.Told.{TellsAudit}
use Rattle.ufs_print.specs.TreeLines.{refusal_line}
use Rattle.ufs_command.proofs.ProperLemmas.{proper_opens}

-- ---- the parts of an answer

-- the verdict is told
pub verdict_told : (start : PosixTree) (r : Reading) (v : Verdict) → r.now ≡ r.before → HasVerdict start r.left r.rest v → EndsAudited start r (verdict_ending v) (verdict_line v)
verdict_told start r (verdict.Legal entries) calm has = (calm, entries, has, refl)
verdict_told start r (verdict.Illegal ticket cause) calm has = (calm, ticket, cause, has, refl)

-- what is known of why there is none
pub record IsUnaudited (r : Reading) (f : AuditFault) : Type 0 where
  pub rose : f ≡ audit_fault.Source → r.now ≡ raised r.before
  pub calm : (f ≡ audit_fault.Source → ⊥) → r.now ≡ r.before
  pub long : f ≡ audit_fault.TextTooLong → HasLongText r.left r.rest
  pub broken : (b : ScriptFault) → f ≡ audit_fault.Script b → HasBrokenScript r.left r.rest b
  pub inside : (b : ScriptFault) → f ≡ audit_fault.Script b → ¬ IsOutside b

err_same : (f g : AuditFault) → ◌≡◌ {A = Result Verdict AuditFault} (Err f) (Err g) → f ≡ g
err_same f g e = cc

-- by what an audit's answer says
pub unaudited : (r : Reading) (f : AuditFault) (result : Result Verdict AuditFault) → result ≡ Err f → (result ≡ Err audit_fault.Source → r.now ≡ raised r.before) → ((result ≡ Err audit_fault.Source → ⊥) → r.now ≡ r.before)
    → (result ≡ Err audit_fault.TextTooLong → HasLongText r.left r.rest) → ((b : ScriptFault) → result ≡ Err (audit_fault.Script b) → HasBrokenScript r.left r.rest b)
    → ((b : ScriptFault) → result ≡ Err (audit_fault.Script b) → ¬ IsOutside b) → IsUnaudited r f
unaudited r f result is rose calm long broken inside = record {
  rose = λ e. rose (is ∙ ap (λ (x : AuditFault). Err x) e);
  calm = λ other. calm (λ e. other (err_same f audit_fault.Source (sym is ∙ e)));
  long = λ e. long (is ∙ ap (λ (x : AuditFault). Err x) e);
  broken = λ b e. broken b (is ∙ ap (λ (x : AuditFault). Err x) e);
  inside = λ b e. inside b (is ∙ ap (λ (x : AuditFault). Err x) e);
}

-- it is told
pub unaudited_told : (start : PosixTree) (r : Reading) (f : AuditFault) → IsUnaudited r f → (ending : Ending) (text : List ℕ) → TellsNoVerdict f ending text → EndsAudited start r ending text
unaudited_told start r (audit_fault.Script b) is ending text (inl e) = subst (λ (x : Ending). EndsAudited start r x text) (sym e.0) (is.calm (λ s. cc), inl (b, is.broken b refl, is.inside b refl, e.1))
unaudited_told start r (audit_fault.Script b) is ending text (inr e) = subst (λ (x : Ending). EndsAudited start r x text) (sym e.0) (is.calm (λ s. cc), e.1)
unaudited_told start r audit_fault.TextTooLong is ending text e = subst (λ (x : Ending). EndsAudited start r x text) (sym e.0) (is.calm (λ s. cc), inr (is.long refl, e.1))
unaudited_told start r audit_fault.Source is ending text e = subst (λ (x : Ending). EndsAudited start r x text) (sym e.0) (is.rose refl, e.1)
unaudited_told start r (audit_fault.Lack _) is ending text e = subst (λ (x : Ending). EndsAudited start r x text) (sym e.0) (is.calm (λ s. cc), e.1)

-- a fault of the source is told
pub source_silent : (r : Reading) (f : AuditFault) (status : ℕ) → IsUnaudited r f → (f ≡ audit_fault.Source → (status ≡ 6) ⊎ (status ≡ 7)) → (status ≡ 6 → ⊥) → (status ≡ 7 → ⊥) → r.now ≡ r.before
source_silent r f status is told six seven = is.calm (λ s. elim (told s) [ inl e ↦ six e | inr e ↦ seven e ])

-- why there is no tree is told
pub unopened_told : (d : Formatting) (f : RecoverFault) → HasFaultCause d.before d.now f → (IsTrue d.visible → TellsWhy d.sectors d.image f) → EndsUnopened d (ending_of f) (line_of f)
unopened_told d recover.NoSuperblock cause why = (cause, (image.NoSuperblock, why, refl))
unopened_told d (recover.BadVersion found) cause why = (cause, (image.BadVersion found, why, refl))
unopened_told d (recover.BadGeometry number) cause why = (cause, (image.BadGeometry number, why, refl))
unopened_told d (recover.BadRecord sector) cause why = (cause, (image.BadRecord sector, why, refl))
unopened_told d (recover.BadTree inode) cause why = (cause, (image.BadTree inode, why, refl))
unopened_told d (recover.Device fault) cause why = (cause.rose, ap device_line cause.number)
unopened_told d (recover.Lack _) cause why = (cause, refl)

-- the tree of an image is what an audit begins with
pub audit_start : (d : Formatting) (nodes : PathNodes) → (IsTrue d.visible → IsTreeOf d.sectors d.image nodes) → IsAuditStart d (start_of nodes)
audit_start d nodes is = record {
  closed = λ client fd. get-empty fd_cmp (client, fd);
  begun = λ visible. let t = is visible in record { tree = t.tree; opened = t.opened; start_is = ap start_of t.same };
}

-- ---- by the status

abbrev SaysLegal : PosixTree → Reading → List ℕ → Type 0
SaysLegal start r text = (entries : ℕ) × HasVerdict start r.left r.rest (verdict.Legal entries) × (text ≡ legal_line entries)

abbrev SaysIllegal : PosixTree → Reading → List ℕ → Type 0
SaysIllegal start r text = (ticket : ℕ) × (cause : Wrong) × HasVerdict start r.left r.rest (verdict.Illegal ticket cause) × (text ≡ illegal_line ticket cause)

abbrev Breaks : Reading → List ℕ → Type 0
Breaks r text = TellsBreak r text ⊎ TellsLongText r text

data AuditedBy (start : PosixTree) (r : Reading) (status : ℕ) (text : List ℕ) : Type 0 where
  as_legal : status ≡ 0 → SaysLegal start r text → AuditedBy start r status text
  as_illegal : status ≡ 9 → SaysIllegal start r text → AuditedBy start r status text
  as_broken : status ≡ 2 → Breaks r text → AuditedBy start r status text
  as_source : status ≡ 6 → r.now ≡ raised r.before → AuditedBy start r status text
  as_memory : status ≡ 5 → AuditedBy start r status text

data UnopenedBy (d : Formatting) (status : ℕ) (text : List ℕ) : Type 0 where
  as_none : status ≡ 3 → TellsNoTree d text → UnopenedBy d status text
  as_device : status ≡ 4 → d.now ≡ raised d.before → UnopenedBy d status text
  as_starved : status ≡ 5 → UnopenedBy d status text

abbrev IsUnread : Reading → Type 0
IsUnread r = (r.rest ≡ r.left) × (r.now ≡ r.before)

abbrev Audited : Reading → Formatting → ℕ → List ℕ → Type 0
Audited r d status text = (start : PosixTree) × IsAuditStart d start × AuditedBy start r status text

abbrev ByStatus : Reading → Formatting → ℕ → List ℕ → Type 0
ByStatus r d status text = (IsUnread r × UnopenedBy d status text) ⊎ Audited r d status text

audited_by : (start : PosixTree) (r : Reading) (status : ℕ) (ending : Ending) (text : List ℕ) → status ≡ status_of ending → EndsAudited start r ending text → AuditedBy start r status text
audited_by start r status Done text is e = as_legal is (e.1, e.2, e.3)
audited_by start r status Usage text is e = absurd e
audited_by start r status (BadGeometry bad) text is e = absurd e
audited_by start r status NotBuilt text is e = absurd e
audited_by start r status BadScript text is e = as_broken is e.1
audited_by start r status TooSmall text is e = absurd e
audited_by start r status NoTree text is e = absurd e
audited_by start r status DeviceFault text is e = absurd e
audited_by start r status OutOfMemory text is e = as_memory is
audited_by start r status SourceFault text is e = as_source is e.0
audited_by start r status Damaged text is e = absurd e
audited_by start r status Illegal text is e = as_illegal is (e.1, e.2, e.3, e.4)

unopened_by : (d : Formatting) (status : ℕ) (ending : Ending) (text : List ℕ) → status ≡ status_of ending → EndsUnopened d ending text → UnopenedBy d status text
unopened_by d status Done text is e = absurd e
unopened_by d status Usage text is e = absurd e
unopened_by d status (BadGeometry bad) text is e = absurd e
unopened_by d status NotBuilt text is e = absurd e
unopened_by d status BadScript text is e = absurd e
unopened_by d status TooSmall text is e = absurd e
unopened_by d status NoTree text is e = as_none is e.1
unopened_by d status DeviceFault text is e = as_device is e.0
unopened_by d status OutOfMemory text is e = as_starved is
unopened_by d status SourceFault text is e = absurd e
unopened_by d status Damaged text is e = absurd e
unopened_by d status Illegal text is e = absurd e

by_status : (r : Reading) (d : Formatting) (status : ℕ) (ending : Ending) (text : List ℕ) → status ≡ status_of ending → EndsAudit r d ending text → ByStatus r d status text
by_status r d status ending text is (inl e) = inl ((e.0, e.1), unopened_by d status ending text is e.2)
by_status r d status ending text is (inr e) = inr (e.1, e.2, audited_by e.1 r status ending text is e.3)

module _ (r : Reading) (d : Formatting) (status : ℕ) (text : List ℕ) where
  -- where the image wasn't opened the status is 3, 4 or 5
  short : UnopenedBy d status text → (3 ≤ status) × (status ≤ 5)
  short (as_none is n) = (omega (arith, is), omega (arith, is))
  short (as_device is e) = (omega (arith, is), omega (arith, is))
  short (as_starved is) = (omega (arith, is), omega (arith, is))

  -- and where it was it is neither 3 nor 4
  audited_other : (start : PosixTree) → AuditedBy start r status text → (status ≡ 3) ⊎ (status ≡ 4) → ⊥
  audited_other start a (inl three) = not_three a
    where
      not_three : AuditedBy start r status text → ⊥
      not_three (as_legal is h) = omega (arith, three, is)
      not_three (as_illegal is h) = omega (arith, three, is)
      not_three (as_broken is h) = omega (arith, three, is)
      not_three (as_source is h) = omega (arith, three, is)
      not_three (as_memory is) = omega (arith, three, is)
  audited_other start a (inr four) = not_four a
    where
      not_four : AuditedBy start r status text → ⊥
      not_four (as_legal is h) = omega (arith, four, is)
      not_four (as_illegal is h) = omega (arith, four, is)
      not_four (as_broken is h) = omega (arith, four, is)
      not_four (as_source is h) = omega (arith, four, is)
      not_four (as_memory is) = omega (arith, four, is)

  legal_of : status ≡ 0 → ByStatus r d status text → (start : PosixTree) × IsAuditStart d start × SaysLegal start r text
  legal_of zero (inl u) = absurd (omega (arith, zero, (short u.1).0))
  legal_of zero (inr (start, begun, a)) = (start, begun, by a)
    where
      by : AuditedBy start r status text → SaysLegal start r text
      by (as_legal is h) = h
      by (as_illegal is h) = absurd (omega (arith, zero, is))
      by (as_broken is h) = absurd (omega (arith, zero, is))
      by (as_source is h) = absurd (omega (arith, zero, is))
      by (as_memory is) = absurd (omega (arith, zero, is))

  illegal_of : status ≡ 9 → ByStatus r d status text → (start : PosixTree) × IsAuditStart d start × SaysIllegal start r text
  illegal_of nine (inl u) = absurd (omega (arith, nine, (short u.1).1))
  illegal_of nine (inr (start, begun, a)) = (start, begun, by a)
    where
      by : AuditedBy start r status text → SaysIllegal start r text
      by (as_legal is h) = absurd (omega (arith, nine, is))
      by (as_illegal is h) = h
      by (as_broken is h) = absurd (omega (arith, nine, is))
      by (as_source is h) = absurd (omega (arith, nine, is))
      by (as_memory is) = absurd (omega (arith, nine, is))

  broken_of : status ≡ 2 → ByStatus r d status text → Breaks r text
  broken_of two (inl u) = absurd (omega (arith, two, (short u.1).0))
  broken_of two (inr (start, begun, a)) = by a
    where
      by : AuditedBy start r status text → Breaks r text
      by (as_legal is h) = absurd (omega (arith, two, is))
      by (as_illegal is h) = absurd (omega (arith, two, is))
      by (as_broken is h) = h
      by (as_source is h) = absurd (omega (arith, two, is))
      by (as_memory is) = absurd (omega (arith, two, is))

  none_of : status ≡ 3 → ByStatus r d status text → TellsNoTree d text
  none_of three (inl u) = by u.1
    where
      by : UnopenedBy d status text → TellsNoTree d text
      by (as_none is n) = n
      by (as_device is e) = absurd (omega (arith, three, is))
      by (as_starved is) = absurd (omega (arith, three, is))
  none_of three (inr (start, begun, a)) = absurd (audited_other start a (inl three))

  unread_of : (status ≡ 3) ⊎ (status ≡ 4) → ByStatus r d status text → IsUnread r
  unread_of is (inl u) = u.0
  unread_of is (inr (start, begun, a)) = absurd (audited_other start a is)

  module _ (visible : IsTrue d.visible) (calm : d.now ≡ raised d.before → ⊥) where
    whole_of : (tree : ImageTree) → opens d.sectors d.image ≡ Ok tree → (r.now ≡ raised r.before → ⊥) → ByStatus r d status text → ((status ≡ 0) ⊎ (status ≡ 9)) ⊎ ((status ≡ 2) ⊎ (status ≡ 5))
    whole_of tree opened silent (inl u) = by u.1
      where
        by : UnopenedBy d status text → ((status ≡ 0) ⊎ (status ≡ 9)) ⊎ ((status ≡ 2) ⊎ (status ≡ 5))
        by (as_none is n) = let both : Ok tree ≡ Err n.0 = sym opened ∙ n.1 visible in cc
        by (as_device is e) = absurd (calm e)
        by (as_starved is) = inr (inr is)
    whole_of tree opened silent (inr (start, begun, a)) = by a
      where
        by : AuditedBy start r status text → ((status ≡ 0) ⊎ (status ≡ 9)) ⊎ ((status ≡ 2) ⊎ (status ≡ 5))
        by (as_legal is h) = inl (inl is)
        by (as_illegal is h) = inl (inr is)
        by (as_broken is h) = inr (inl is)
        by (as_source is h) = absurd (silent h)
        by (as_memory is) = inr (inr is)

    refused_of : (refusal : Refusal) → opens d.sectors d.image ≡ Err refusal → ByStatus r d status text → (status ≡ 3) ⊎ (status ≡ 5)
    refused_of refusal unopened (inl u) = by u.1
      where
        by : UnopenedBy d status text → (status ≡ 3) ⊎ (status ≡ 5)
        by (as_none is n) = inl is
        by (as_device is e) = absurd (calm e)
        by (as_starved is) = inr is
    refused_of refusal unopened (inr (start, begun, a)) = let b = begun.begun visible in let both : Err refusal ≡ Ok b.tree = sym unopened ∙ b.opened in cc

-- ---- of the whole answer

module _ (r : Reading) (d : Formatting) (w : Writing) (status : ℕ) (a : IsAnswer (EndsAudit r d) w status) where
  told : (status ≡ sink_status → ⊥) → (text : List ℕ) × ByStatus r d status text × Appends w.held w.holds text
  told other = let x = a.whole other in (x.1, by_status r d status x.0 x.1 x.2 x.3, x.4)

  no_tree_told : IsTrue d.visible → status ≡ 3 → (refusal : Refusal) × (opens d.sectors d.image ≡ Err refusal) × Appends w.held w.holds (refusal_line refusal)
  no_tree_told visible three =
      let x = told (λ e. cc) in
      let n = none_of r d status x.0 three x.1 in
      (n.0, n.1 visible, subst (Appends w.held w.holds) n.2 x.2)

  pub audit_told : TellsAudit r d w status
  audit_told = record {
    legal = λ zero.
        let x = told (λ e. cc) in
        let s = legal_of r d status x.0 zero x.1 in
        (s.2.0, (s.0, s.1, s.2.1), subst (Appends w.held w.holds) s.2.2 x.2);
    illegal = λ nine.
        let x = told (λ e. cc) in
        let s = illegal_of r d status x.0 nine x.1 in
        (s.2.0, s.2.1, (s.0, s.1, s.2.2), subst (Appends w.held w.holds) s.2.3 x.2);
    broken = λ two. let x = told (λ e. cc) in (x.0, broken_of r d status x.0 two x.1, x.2);
    no_tree = no_tree_told;
    unopened = λ is. let x = told (λ e. other is e) in unread_of r d status x.0 is x.1;
    complete = λ visible tree opened calm silent. let x = told (λ s. calm.sink (a.rose s)) in whole_of r d status x.0 visible calm.disk tree opened silent x.1;
    refused = λ visible refusal unopened calm. let x = told (λ s. calm.sink (a.rose s)) in refused_of r d status x.0 visible calm.disk refusal unopened x.1;
    proper = λ visible proper three. let x = no_tree_told visible three in proper_opens d.sectors d.image proper x.0 x.1;
  }
    where
      other : (status ≡ 3) ⊎ (status ≡ 4) → status ≡ 7 → ⊥
      other (inl three) seven = omega (arith, three, seven)
      other (inr four) seven = omega (arith, four, seven)
