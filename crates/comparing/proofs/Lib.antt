mod Frames
mod Rows
mod Verdicts
