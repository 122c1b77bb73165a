-- What Open settles and no other call changes: the edition of the book, n, the weights, the own number and H.
use Rattle.std.specs.Prelude.{◌≡◌}
use Rattle.protocol.specs.State.{State, last}

pub record SettingStays (s t : State) : Type 0 where
  pub same_edition : t.edition ≡ s.edition
  pub same_n : t.n ≡ s.n
  pub same_weights : t.weights ≡ s.weights
  pub same_own : t.own ≡ s.own
  pub same_last : last t ≡ last s
