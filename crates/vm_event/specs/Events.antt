-- Event sources at 32 places. Source: FreeBSD's usr.sbin/bhyve/mevent.c.
use Rattle.std.specs.Prelude.{ℕ, Bool, false, ◌&&◌, ◌==◌, List, slice_index_or, slice_set, Option, None, Some, is_some, filter}
use Rattle.std.specs.List.{range_with_len, list_any, list_all}
use Rattle.std.specs.Option.{option_map}
use Rattle.vm_event.specs.declared.events.Source.{Source}

-- the places of the sources, in order
abbrev pub Sources : Type 0
Sources = List (Option Source)

-- the source with an id
abbrev pub source_at : Sources → ℕ → Option Source
source_at events id = slice_index_or events id None

-- a source with this id is there
abbrev pub is_there : Sources → ℕ → Bool
is_there events id = is_some (source_at events id)

abbrev pub is_set : Option Source → Bool
is_set None = false
is_set (Some source) = source.enabled

-- a source with this id is there and enabled
abbrev pub is_enabled : Sources → ℕ → Bool
is_enabled events id = is_set (source_at events id)

-- every place has a source
abbrev pub is_full : Sources → Bool
is_full events = list_all is_some events

-- a source as it is added: not enabled
abbrev pub new_source : ℕ → Source
new_source kind = record { kind = kind; enabled = false }

-- the sources once the one with an id is enabled or not
abbrev pub with_enabled : Sources → ℕ → Bool → Sources
with_enabled events id enabled = slice_set events id (option_map {T = Source} (λ source. record source { enabled = enabled }) (source_at events id))

-- the id is raised
abbrev pub is_raised : List ℕ → ℕ → Bool
is_raised raised id = list_any (λ r. r == id) raised

-- of the first n ids those that are enabled and raised, in order
unfoldable pub ready_below : Sources → List ℕ → ℕ → List ℕ
ready_below events raised n = filter (λ id. is_enabled events id && is_raised raised id) (range_with_len 0 n)

-- the ids that are enabled and raised, each once, by ascending id
abbrev pub ready : Sources → List ℕ → List ℕ
ready events raised = ready_below events raised 32
