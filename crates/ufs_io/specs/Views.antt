-- What contracts see of the sources, sinks and clocks of this crate.
use Rattle.std.specs.Prelude.{ℕ, List}

-- A source in memory: the bytes that are left, the numbers of the calls that fail, how many calls
-- were made (so the first has the number 0), and how many of them failed.
pub record SourceView : Type 0 where
  pub left : List ℕ
  pub fails : List ℕ
  pub calls : ℕ
  pub faults : ℕ

-- A sink in memory: the same, with the bytes that it holds, and how many of the calls that failed found no memory.
pub record SinkView : Type 0 where
  pub held : List ℕ
  pub fails : List ℕ
  pub calls : ℕ
  pub faults : ℕ
  pub starved : ℕ

-- A source or a sink over a stream: the stream, and how many calls failed.
pub record StreamView (S : Type 0) : Type 0 where
  pub stream : S
  pub faults : ℕ

-- A clock by hand: what it answered last, and the answers that come.
pub record HandView : Type 0 where
  pub last : ℕ
  pub coming : List ℕ
