use Rattle.std.proofs.Common.{length, ap, ◌∙◌}
use Rattle.ufs_rounds_tests.proofs.session.played.Goals as goal

pub session-requires-clause-mounted : goal.session-requires-clause-mounted
session-requires-clause-mounted g c =
    let m = c.in_ok-ready.ensures.mounted in (
      m.0,
      record {
        start = m.1.start;
        ready = m.1.ready;
        can = m.1.can;
        clients_are = m.1.clients_are ∙ ap length c.as_slice.ensures.value;
        workers_are = m.1.workers_are;
        few = m.1.few;
        names_are = m.1.names_are;
        files_are = m.1.files_are;
      },
    )
