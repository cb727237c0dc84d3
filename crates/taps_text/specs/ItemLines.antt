-- The line of each item of a trace (local).
use Rattle.std.specs.Prelude.{ℕ, List, ◌++◌, codes}
use Rattle.std.specs.List.{flat_map}
use Rattle.std.specs.Fmt.{decimal}
use Rattle.taps_endpoint.specs.CanonicalTexts.{canonical_text}
use Rattle.taps_socket.specs.declared.item.How.{How}
use Rattle.taps_socket.specs.declared.item.How.TheVariants.{Reached, Completed, Broke}
use Rattle.taps_socket.specs.declared.item.How.TheVariants as ends
use Rattle.taps_socket.specs.declared.item.Item.{Item}
use Rattle.taps_socket.specs.declared.item.Item.TheVariants.{Began, Started, Refused, Waited, Closed, Listening, NotListening, Accepted, Faulted, Shut, Ended, DataFailed}
use Rattle.taps_socket.specs.CauseWords.{cause_word}

-- how a line with a moment ends
abbrev pub at_moment : ℕ → List ℕ
at_moment at = codes " at " ++ (decimal at ++ codes "\n")

-- how a wait ended, and when
abbrev pub how_text : How → ℕ → List ℕ
how_text Reached at = codes " reached " ++ (decimal at ++ codes "\n")
how_text (Completed socket) at = codes " completed " ++ (decimal socket ++ at_moment at)
how_text (Broke socket cause) at =
    codes " broke " ++ (decimal socket ++ (codes " " ++ (cause_word cause ++ at_moment at)))
how_text ends.Faulted at = codes " faulted at " ++ (decimal at ++ codes "\n")

-- what happened, to which leaf or socket, and when
unfoldable pub item_line : Item → List ℕ
item_line (Began at) = codes "begin " ++ (decimal at ++ codes "\n")
item_line (Started leaf target socket at) =
    codes "start " ++ (decimal leaf ++ (codes " socket " ++ (decimal socket ++ at_moment at)))
item_line (Refused leaf target cause at) =
    codes "start " ++ (decimal leaf ++ (codes " refused " ++ (cause_word cause ++ at_moment at)))
item_line (Waited until at how) = codes "wait " ++ (decimal until ++ how_text how at)
item_line (Closed socket) = codes "close " ++ (decimal socket ++ codes "\n")
item_line (Listening target socket at) =
    codes "listen " ++ (decimal socket ++ (codes " " ++ (canonical_text target.address ++ at_moment at)))
item_line (NotListening target cause at) = codes "listen refused " ++ (cause_word cause ++ at_moment at)
item_line (Accepted listener socket at) =
    codes "accept " ++ (decimal socket ++ (codes " from " ++ (decimal listener ++ at_moment at)))
item_line (Faulted at) = codes "faulted at " ++ (decimal at ++ codes "\n")
item_line (Shut socket) = codes "shut " ++ (decimal socket ++ codes "\n")
item_line (Ended socket) = codes "ended " ++ (decimal socket ++ codes "\n")
item_line (DataFailed socket sending cause) =
    codes "failed " ++ (decimal socket ++ (codes " " ++ (cause_word cause ++ codes "\n")))

-- a line for each item, oldest first
abbrev pub item_lines : List Item → List ℕ
item_lines items = flat_map item_line items
