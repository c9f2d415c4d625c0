-- What a person reads of a fault.
use Rattle.std.specs.Prelude.{ℕ, cond, List, ◌++◌, ◌==◌, codes, decimal}
use Rattle.wire.specs.declared.faults.FrameFault.{FrameFault}

-- what is wrong at a byte place
abbrev pub place_text : ℕ → List ℕ
place_text place =
    cond (place == 0) (codes "the length is not that of what follows")
    (cond (place == 2) (codes "no version 1")
    (cond (place == 3) (codes "no kind of a frame")
    (cond (place == 4) (codes "no count of 0 to 16") (codes "the frame ends here, too early"))))

abbrev pub fault_text : FrameFault → List ℕ
fault_text f = codes "fault at byte " ++ (decimal f.place ++ (codes ": " ++ place_text f.place))
