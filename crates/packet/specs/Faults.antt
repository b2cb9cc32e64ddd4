-- The number of each refusal.
use Rattle.std.specs.Prelude.{ℕ}
use Rattle.packet.specs.declared.fault.ReaderCause.{ReaderCause}
use Rattle.packet.specs.declared.fault.ReaderCause.TheVariants.{Byte, Head, Word, Value, Depth, Nodes}
use Rattle.packet.specs.declared.fault.BuilderCause.{BuilderCause}
use Rattle.packet.specs.declared.fault.BuilderCause.TheVariants.{NotCarried, Copies, Rows, WorkRows}
use Rattle.packet.specs.declared.fault.HostCause.{HostCause}
use Rattle.packet.specs.declared.fault.HostCause.TheVariants.{Numbers}
use Rattle.packet.specs.declared.fault.SwitchCause.{SwitchCause}
use Rattle.packet.specs.declared.fault.SwitchCause.TheVariants.{Shut, Broken, Waiting, Full}
use Rattle.packet.specs.declared.fault.Fault.{Fault}
use Rattle.packet.specs.declared.fault.Fault.TheVariants.{Reader, Builder, Host, Switch}

abbrev pub reader_number : ReaderCause → ℕ
reader_number Byte = 1
reader_number Head = 2
reader_number Word = 3
reader_number Value = 4
reader_number Depth = 5
reader_number Nodes = 6

abbrev pub builder_number : BuilderCause → ℕ
builder_number NotCarried = 7
builder_number Copies = 8
builder_number Rows = 9
builder_number WorkRows = 10

abbrev pub host_number : HostCause → ℕ
host_number Numbers = 11

abbrev pub switch_number : SwitchCause → ℕ
switch_number Shut = 12
switch_number Broken = 13
switch_number Waiting = 14
switch_number Full = 15

abbrev pub number_of : Fault → ℕ
number_of (Reader cause place) = reader_number cause
number_of (Builder cause node) = builder_number cause
number_of (Host cause call) = host_number cause
number_of (Switch cause call) = switch_number cause
