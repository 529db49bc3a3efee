use Rattle.std.proofs.Common.{◌≡◌, ◌≤◌, ◌<◌, ◌+◌, length, arith, rules}
use Rattle.ufs_layout.specs.Records.{record_bytes}
use Rattle.ufs_ilog.proofs.FillingLemmas.{filling_joins, filling_begins}
use Rattle.ufs_ilog.proofs.names_log.Filling.with_record.Goals as goal
use Rattle.ufs_ilog.proofs.names_log.Filling.with_record.Goals.{else-self-gt0-via-then-self-gt0+then-self-le-CONTENT+else-length-self, else-self-gt0-via-then-self-gt0+else-self-le-CONTENT, else-self-gt0-via-else-self-gt0}

pub returns-then-length-self-clause-more : goal.returns-then-length-self-clause-more
returns-then-length-self-clause-more c = λ before is.
    let long : c.record_length-length.result ≡ length (record_bytes c.args.added.now) = c.record_length-length.ensures in
    rw long (filling_joins c.args.self.sectors c.args.self.used before c.args.added.now is (omega arith) (omega arith))

pub returns-then-self-eq4294967295-clause-end : goal.returns-then-self-eq4294967295-clause-end
returns-then-self-eq4294967295-clause-end c = λ before is.
    let long : c.record_length-length.result ≡ length (record_bytes c.args.added.now) = c.record_length-length.ensures in
    let over : 1 ≤ c.args.self.sectors → 488 < c.args.self.used + length (record_bytes c.args.added.now) = elim c.else-self-gt0.branch [
      | else-self-gt0-via-then-self-gt0+then-self-le-CONTENT+else-length-self w ↦ λ some. omega arith
      | else-self-gt0-via-then-self-gt0+else-self-le-CONTENT w ↦ λ some. omega arith
      | else-self-gt0-via-else-self-gt0 w ↦ λ some. absurd (omega arith)
    ] in
    let begun = filling_begins c.args.self.sectors c.args.self.used before c.args.added.now is over in
    let counted = begun.counted in
    omega (arith, counted)

pub returns-clause-more : goal.returns-clause-more
returns-clause-more c = λ before is.
    let long : c.record_length-length.result ≡ length (record_bytes c.args.added.now) = c.record_length-length.ensures in
    let over : 1 ≤ c.args.self.sectors → 488 < c.args.self.used + length (record_bytes c.args.added.now) = elim c.else-self-gt0.branch [
      | else-self-gt0-via-then-self-gt0+then-self-le-CONTENT+else-length-self w ↦ λ some. omega arith
      | else-self-gt0-via-then-self-gt0+else-self-le-CONTENT w ↦ λ some. omega arith
      | else-self-gt0-via-else-self-gt0 w ↦ λ some. absurd (omega arith)
    ] in
    rw long (filling_begins c.args.self.sectors c.args.self.used before c.args.added.now is over)
