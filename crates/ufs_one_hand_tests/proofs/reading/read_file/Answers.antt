use Rattle.ufs_one_hand_tests.proofs.Parted.{first_here}
use Rattle.ufs_one_hand_tests.proofs.TwoFiles.{first_stands, other_byte, reads_answers}
use Rattle.ufs_one_hand_tests.proofs.reading.read_file.Goals as goal

pub draw-requires : goal.draw-requires
draw-requires g c =
    let k = g.N.Naming.start in
    let own = c.requires.file in
    let has = first_here k _ c.ask.new.self own.0 (c.ask.ensures.apart _ own.0 own.2) (first_stands k c.requires.start) own.1 in record {
      answer = (_, reads_answers k c.requires.start c.args.first c.ask.new.self (c.ask.ensures.session _ c.requires.session) has);
      alike = other_byte k c.requires.start c.args.byte c.requires.byte;
    }

pub returns : goal.returns
returns g c =
    let k = g.N.Naming.start in
    let own = c.requires.file in
    let has = first_here k _ c.ask.new.self own.0 (c.ask.ensures.apart _ own.0 own.2) (first_stands k c.requires.start) own.1 in
    let answer = reads_answers k c.requires.start c.args.first c.ask.new.self (c.ask.ensures.session _ c.requires.session) has in record {
      session = c.draw.ensures.session _ answer;
      apart = λ files each. c.draw.ensures.apart _ files answer (c.ask.ensures.apart _ files each);
    }
