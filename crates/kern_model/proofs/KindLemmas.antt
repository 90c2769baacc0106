-- Kinds by the tests on them.
use Rattle.std.specs.Prelude.{◌≡◌, true, false, refl}
use Rattle.std.proofs.Common.{sym}
use Rattle.std.proofs.lemmas.Bool.{true≢false}
use Rattle.kern_model.specs.declared.objects.Kind.{Kind}
use Rattle.kern_model.specs.declared.objects.Kind.TheVariants as kind
use Rattle.kern_model.specs.Kinds.{is_dir, is_file, is_fifo, is_stream}

pub dir_kind : (k : Kind) → is_dir k ≡ true → k ≡ kind.Dir
dir_kind kind.Dir h = refl
dir_kind kind.File h = absurd (true≢false (sym h))
dir_kind kind.Fifo h = absurd (true≢false (sym h))
dir_kind kind.Pipe h = absurd (true≢false (sym h))

pub file_kind : (k : Kind) → is_file k ≡ true → k ≡ kind.File
file_kind kind.Dir h = absurd (true≢false (sym h))
file_kind kind.File h = refl
file_kind kind.Fifo h = absurd (true≢false (sym h))
file_kind kind.Pipe h = absurd (true≢false (sym h))

-- what is neither a directory nor a pipe or FIFO is a file
pub other_kind : (k : Kind) → (k ≡ kind.Dir → ⊥) → is_stream k ≡ false → k ≡ kind.File
other_kind kind.Dir no_dir no_stream = absurd (no_dir refl)
other_kind kind.File no_dir no_stream = refl
other_kind kind.Fifo no_dir no_stream = absurd (true≢false no_stream)
other_kind kind.Pipe no_dir no_stream = absurd (true≢false no_stream)

pub fifo_stream : (k : Kind) → is_fifo k ≡ true → is_stream k ≡ true
fifo_stream kind.Dir h = absurd (true≢false (sym h))
fifo_stream kind.File h = absurd (true≢false (sym h))
fifo_stream kind.Fifo h = refl
fifo_stream kind.Pipe h = absurd (true≢false (sym h))

pub stream_fifo : (k : Kind) → is_stream k ≡ true → (k ≡ kind.Pipe → ⊥) → is_fifo k ≡ true
stream_fifo kind.Dir h no_pipe = absurd (true≢false (sym h))
stream_fifo kind.File h no_pipe = absurd (true≢false (sym h))
stream_fifo kind.Fifo h no_pipe = refl
stream_fifo kind.Pipe h no_pipe = absurd (no_pipe refl)
