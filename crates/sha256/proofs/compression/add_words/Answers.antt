-- `add_words` meets its contract: each of the eight sums wraps as the standard's does. Assumes nothing.
use Rattle.std.proofs.Common.{refl}
use Rattle.sha256_functions.specs.Words.{add}
use Rattle.sha256.specs.Compression.{add_words}
use Rattle.sha256.proofs.compression.add_words.Goals as goal

pub returns : goal.returns
unfolding add add_words
returns c = refl
