-- What a server sends one way in order; what finds a ring full is kept.
use Rattle.std.specs.Prelude.{◌≡◌, List, [], ◌∷◌, ◌++◌}

module _ {A Q : Type 0} (sends : Q → A → Q → Type 0) (same : Q → Q → Type 0) (full : Q → A → Type 0) where
  -- These went, one behind the other.
  abbrev pub AllWent : List A → Q → Q → Type 0
  AllWent [] p q = q ≡ p
  AllWent (x ∷ xs) p q = (r : Q) × sends p x r × AllWent xs r q

  -- Where some are left, the ring was full for the first of them.
  abbrev pub AreLeft : List A → Q → Q → Type 0
  AreLeft [] p q = q ≡ p
  AreLeft (x ∷ xs) p q = same p q × full p x

  -- Of those that were kept the first ones went, and the others stay in their order.
  pub record GoInOrder (old new : List A) (p q : Q) : Type 0 where
    pub gone : List A
    pub mid : Q
    pub parted : old ≡ gone ++ new
    pub went : AllWent gone p mid
    pub left : AreLeft new mid q
