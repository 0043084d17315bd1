-- The laws of accesses that are no step of the region machine, each by the lemma of its file.
use Rattle.rgo_core_memory.specs.Chains.{HangKeeps, LinkKeeps, LocatedKeeps, MeasuredKeeps, HeadKeeps, NextKeeps, FreeKeeps, ClearKeeps, SlotKeeps, TriedPageKeeps, TriedSlotKeeps, ForgetKeeps}
use Rattle.rgo_core_memory.specs.Ground.{ground_of}
use Rattle.rgo_core_memory.proofs.pages.Chaining.{hung, linked, head_loaded, next_loaded, page_freed, head_cleared}
use Rattle.rgo_core_memory.proofs.regions.Counting.{slot_freed}
use Rattle.rgo_core_memory.proofs.image.Steadies.{steady_of}
use Rattle.rgo_core_memory.proofs.pages.Trying.{page_tried, slot_tried, forgot, locates, measures}

pub hang_keeps : HangKeeps
hang_keeps code z words recs s places g c all k own = hung z words recs (ground_of s) places k (steady_of code s all) g c own

pub link_keeps : LinkKeeps
link_keeps code z words recs s places g c all k own = linked z words recs (ground_of s) places k (steady_of code s all) g c own

pub head_keeps : HeadKeeps
head_keeps code z words recs s places g c all k own = head_loaded z words recs (ground_of s) places k (steady_of code s all) g c own

pub next_keeps : NextKeeps
next_keeps code z words recs s places g c all k own = next_loaded z words recs (ground_of s) places k (steady_of code s all) g c own

pub free_keeps : FreeKeeps
free_keeps code z words recs s places g c all k own = page_freed z words recs (ground_of s) places k (steady_of code s all) g c own

pub clear_keeps : ClearKeeps
clear_keeps code z words recs s places g c all k own = head_cleared z words recs (ground_of s) places k (steady_of code s all) g c own

pub slot_keeps : SlotKeeps
slot_keeps code z words recs s places g c all k own = slot_freed z words recs (ground_of s) places k g c own

pub tried_page_keeps : TriedPageKeeps
tried_page_keeps code z words recs s places g c all k own = page_tried z words recs (ground_of s) places k g c own

pub tried_slot_keeps : TriedSlotKeeps
tried_slot_keeps code z words recs s places g c all k own = slot_tried z words recs (ground_of s) places k g c own

pub forget_keeps : ForgetKeeps
forget_keeps code z words recs s places g c all k own = forgot z words recs (ground_of s) places k g c own

pub measured_keeps : MeasuredKeeps
measured_keeps code z words recs s places g c all k own = measures z words recs (ground_of s) places k g c own

pub located_keeps : LocatedKeeps
located_keeps code z words recs s places g c all k own = locates z words recs (ground_of s) places k g c own
