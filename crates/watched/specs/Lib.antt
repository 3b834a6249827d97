pub mod ExportedWatching
