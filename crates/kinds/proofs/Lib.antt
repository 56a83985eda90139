pub mod SoundFacts
pub mod Rows
pub mod PatternWalk
pub mod WhatCounts
pub mod Blank
