use Rattle.std.proofs.Common.{rules}
use Rattle.ufs_layout.specs.JournalHead.{header_bytes, header_fields, is_header}
use Rattle.ufs_layout.proofs.Spelled.{spelled-at}
use Rattle.ufs_layout.proofs.HeadForms.{header-back}
use Rattle.ufs_layout.proofs.header.put_header.Goals as goal

pub returns-clause-read_back : goal.returns-clause-read_back
returns-clause-read_back c = spelled-at header_fields header_bytes is_header c.args.value.now c.put_u16-2.new.bytes (search rules) (header-back c.args.value.now (search rules)) c.requires.form
