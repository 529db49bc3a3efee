-- What a command does to a mirror, by what is seen of it.
use Rattle.std.proofs.Common.{◌⊎◌, inl, inr, ℕ, List, Option, Some, None, ap}
use Rattle.ufs_bench.specs.Workload.{bench_geometry}
use Rattle.ufs_model.specs.declared.data.Entry.{Entry}
use Rattle.ufs_layout.specs.declared.geometry.Geometry.{Geometry}
use Rattle.ufs_command.specs.declared.words.Command.{Command}
use Rattle.ufs_command.specs.declared.words.Command.TheVariants as command
use Rattle.ufs_command.specs.Left.{ActsOn, Benches, Formats, FormatsAndPlays, LeavesDisk, LeavesUnserved, Plays}
use Rattle.ufs_command.specs.Seen.{Course}

module _ {D E : Type 0} (see : D → E) where
  -- the same course of what is seen
  abbrev pub seen_course : Course D → Course E
  seen_course c = record { visible = c.visible; keeps = c.keeps; sectors = c.sectors; sectors_now = c.sectors_now; old = see c.old; new = see c.new; from = c.from; to = c.to; before = c.before; now = c.now }

  formats_seen : (g : Geometry) (status : ℕ) (c : Course D) → Formats g status c → Formats g status (seen_course c)
  formats_seen g status c f = record {
    formatted = f.formatted;
    crash = f.crash;
    others = f.others;
    refused = λ some. ap see (f.refused some);
    small = λ less. ap see (f.small less);
    starved = λ five. ap see (f.starved five);
  }

  plays_seen : (told : List (List Entry)) (status : ℕ) (c : Course D) → Plays told status c → Plays told status (seen_course c)
  plays_seen told status c p = record {
    crash = p.crash;
    proper = p.proper;
    always = p.always;
    stamped = p.stamped;
    clean = p.clean;
    last = p.last;
    numbers = p.numbers;
    unserved = p.unserved;
    undone = p.undone;
    broken = λ two. ap see (p.broken two);
    unread = λ six. ap see (p.unread six);
  }

  steps_seen : (told : List (List Entry)) (status : ℕ) (c : Course D) → LeavesUnserved told status c ⊎ FormatsAndPlays told status c → LeavesUnserved told status (seen_course c) ⊎ FormatsAndPlays told status (seen_course c)
  steps_seen told status c (inl x) = inl (x.0, formats_seen bench_geometry status c x.1)
  steps_seen told status c (inr x) = inr (see x.0, x.1, formats_seen bench_geometry 0 (record c { new = x.0; to = x.1 }) x.2, plays_seen told status (record c { old = x.0; from = x.1 }) x.3)

  benches_seen : (told : List (List Entry)) (status : ℕ) (c : Course D) → Benches told status c → Benches told status (seen_course c)
  benches_seen told status c b = record {
    steps = steps_seen told status c b.steps;
    small = λ less. ap see (b.small less);
    clean = b.clean;
    last = b.last;
  }

  acts_seen : (words : Option Command) (told : List (List Entry)) (status : ℕ) (c : Course D) → ActsOn words told status c → ActsOn words told status (seen_course c)
  acts_seen None told status c same = ap see same
  acts_seen (Some command.NotBuilt) told status c same = ap see same
  acts_seen (Some (command.Mkfs blocks inodes journal)) told status c acts = formats_seen (record { blocks = blocks; inodes = inodes; journal = journal }) status c acts
  acts_seen (Some (command.Play trace)) told status c acts = plays_seen told status c acts
  acts_seen (Some (command.Bench seed)) told status c acts = benches_seen told status c acts
  acts_seen (Some command.Tree) told status c acts = acts
  acts_seen (Some command.Check) told status c acts = acts
  acts_seen (Some command.Audit) told status c acts = acts
  acts_seen (Some command.Recover) told status c acts = acts

  pub left_seen : (words : Option Command) (told : List (List Entry)) (status : ℕ) (c : Course D) → LeavesDisk words told status c → LeavesDisk words told status (seen_course c)
  left_seen words told status c left = record {
    acts = acts_seen words told status c left.acts;
    size = left.size;
    told = left.told;
    played = left.played;
  }
