-- The buffer that messages are sealed into. Assumes nothing.
use Rattle.std.proofs.Common.{◌≡◌, ℕ, length}
use Rattle.std.proofs.lemmas.Simd.{length-replicate}
use Rattle.wire.specs.Limits.{longest_message}
use Rattle.bench_run.specs.Requests.{empty_buffer}

pub empty_length : length empty_buffer ≡ longest_message
empty_length = length-replicate {A = ℕ} longest_message 0
