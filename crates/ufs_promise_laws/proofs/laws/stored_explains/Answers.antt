use Rattle.ufs_promise_laws.proofs.laws.stored_explains.Goals as goal

pub returns-clause-crash : goal.returns-clause-crash
returns-clause-crash c sectors image l unassigned start history counts p same st left = c.opening_law.ensures.ledger sectors l image start history counts counts same left st.kept

pub returns-clause-calls : goal.returns-clause-calls
returns-clause-calls c keeps sectors old new l unassigned start history counts p same st calls = c.opening_law.ensures.runs keeps sectors old new l start history counts counts same calls st.kept
