-- The line that tells a refusal.
use Rattle.std.specs.Prelude.{ℕ, List, ◌++◌, codes, decimal}
use Rattle.packet.specs.Faults.{reader_number, builder_number, host_number, switch_number}
use Rattle.packet.specs.declared.fault.BuilderCause.{BuilderCause}
use Rattle.packet.specs.declared.fault.BuilderCause.TheVariants.{NotCarried, Copies, Rows, WorkRows}
use Rattle.packet.specs.declared.fault.Call.{Call}
use Rattle.packet.specs.declared.fault.Call.TheVariants.{Packet, Put, Fence, Out, Step}
use Rattle.packet.specs.declared.fault.Fault.{Fault}
use Rattle.packet.specs.declared.fault.Fault.TheVariants.{Reader, Builder, Host, Switch}
use Rattle.packet.specs.declared.fault.HostCause.{HostCause}
use Rattle.packet.specs.declared.fault.HostCause.TheVariants.{Numbers}
use Rattle.packet.specs.declared.fault.ReaderCause.{ReaderCause}
use Rattle.packet.specs.declared.fault.ReaderCause.TheVariants.{Byte, Head, Word, Value, Depth, Nodes}
use Rattle.packet.specs.declared.fault.TextPlace.{TextPlace}
use Rattle.packet.specs.declared.fault.SwitchCause.{SwitchCause}
use Rattle.packet.specs.declared.fault.SwitchCause.TheVariants.{Shut, Broken, Waiting, Full}

-- the name of a call
abbrev pub name_of : Call → List ℕ
name_of Packet = codes "packet"
name_of Put = codes "put"
name_of Fence = codes "fence"
name_of Out = codes "out"
name_of Step = codes "step"

-- a place in a text
abbrev pub told_place : TextPlace → List ℕ
told_place p = codes "line " ++ (decimal p.line ++ (codes ", byte " ++ decimal p.byte))

-- what a refusal means
abbrev pub reader_meaning : ReaderCause → List ℕ
reader_meaning Byte = codes "a byte that stands in no policy text"
reader_meaning Head = codes "a head word that cannot stand there"
reader_meaning Word = codes "a wrong, missing or extra word or bracket"
reader_meaning Value = codes "a malformed value, or one outside its field"
reader_meaning Depth = codes "an opening bracket deeper than 16"
reader_meaning Nodes = codes "a node past 64"

abbrev pub builder_meaning : BuilderCause → List ℕ
builder_meaning NotCarried = codes "a test that the header kind does not carry"
builder_meaning Copies = codes "a row with more than 8 copies"
builder_meaning Rows = codes "more rows than fit"
builder_meaning WorkRows = codes "more rows alive than work rows"

abbrev pub host_meaning : HostCause → List ℕ
host_meaning Numbers = codes "numbers that break a packet's rules"

abbrev pub switch_meaning : SwitchCause → List ℕ
switch_meaning Shut = codes "the link is shut"
switch_meaning Broken = codes "the link broke"
switch_meaning Waiting = codes "16 messages wait already"
switch_meaning Full = codes "the switch has no room for a row"

abbrev pub meaning_of : Fault → List ℕ
meaning_of (Reader cause place) = reader_meaning cause
meaning_of (Builder cause node) = builder_meaning cause
meaning_of (Host cause call) = host_meaning cause
meaning_of (Switch cause call) = switch_meaning cause

-- refused NUMBER by the LAYER at PLACE: what it means
abbrev pub told : Fault → List ℕ
told (Reader cause place) = codes "refused " ++ (decimal (reader_number cause) ++ (codes " by the reader at " ++ (told_place place ++ (codes ": " ++ reader_meaning cause))))
told (Builder cause node) = codes "refused " ++ (decimal (builder_number cause) ++ (codes " by the builder at node " ++ (decimal node ++ (codes ": " ++ builder_meaning cause))))
told (Host cause call) = codes "refused " ++ (decimal (host_number cause) ++ (codes " by the host at " ++ (name_of call ++ (codes ": " ++ host_meaning cause))))
told (Switch cause call) = codes "refused " ++ (decimal (switch_number cause) ++ (codes " by the switch at " ++ (name_of call ++ (codes ": " ++ switch_meaning cause))))
