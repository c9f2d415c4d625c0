-- What a line's bytes are: a batch where the kind byte is 9, else a sealed statement, or no frame.
use Rattle.std.specs.Prelude.{ℕ, cond, List, Ok, Err, Result, ◌==◌, slice_index}
use Rattle.wire.specs.declared.records.Sealed.{Sealed}
use Rattle.wire.specs.declared.records.Batch.{Batch}
use Rattle.wire.specs.declared.faults.FrameFault.{FrameFault}
use Rattle.wire.specs.Frames.{read_sealed, read_batch}
use Rattle.inspect.specs.declared.frame.Frame.{Frame}
use Rattle.inspect.specs.declared.frame.Frame.TheVariants.{Statement, Requests}

abbrev pub of_sealed : Result Sealed FrameFault → Result Frame FrameFault
of_sealed (Ok s) = Ok (Statement s)
of_sealed (Err f) = Err f

abbrev pub of_batch : Result Batch FrameFault → Result Frame FrameFault
of_batch (Ok b) = Ok (Requests b)
of_batch (Err f) = Err f

abbrev pub sealed_in : List ℕ → Result Frame FrameFault
sealed_in bs = of_sealed (read_sealed bs)

abbrev pub batch_in : List ℕ → Result Frame FrameFault
batch_in bs = of_batch (read_batch bs)

abbrev pub frame_in : List ℕ → Result Frame FrameFault
frame_in bs = cond (slice_index bs 3 == 9) (batch_in bs) (sealed_in bs)
